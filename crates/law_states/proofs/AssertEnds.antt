-- Each Assert Timer expires within Assert_Time.
use Rattle.std.{proofs.{Common.{◌≡◌, ◌∙◌, ℕ, ◌+◌, ◌≤◌, not, Bool, true, false, List, filter, refl, sym, subst, arith}}, specs.{List.{AllByRecursion}}}
use Rattle.pim_types.{specs.{Keys.{is_on, same_key}, declared.{config.{Config.Config}, fact.{AssertMetric.AssertMetric, AssertRow.AssertRow, DownstreamRow.DownstreamRow, Key.Key}, timer.TimerKind.TimerKind}}}
use Rattle.pim_ip.{specs.Ipv4.Packet}
use Rattle.pim_wire.{specs.{declared.{assert.Assert.Assert as AssertMessage, hello.Hello.Hello as HelloValue}, Values.{Encapsulated, JoinPrune, Null}}}
use Rattle.igmp_wire.{specs.Values.{Query as QueryValue, Record}}
use Rattle.pim_model.{specs.{declared.accepted.Accepted.Accepted, Asserts.{assert_as_loser, assert_as_winner, assert_at, assert_due, assert_forgotten, assert_in_no_info, assert_received, data_seen, loser_time, loses, loses_first, winner_time, wins, wins_again, with_spt_bit, without_spt_bit}, Clearing.clear, Downstream.{asserts_after_joins, downstream_expired, keys_taken, prune_pending_due, to_me}, Firing.{fire_row, fired, keepalive_due, settled}, Forwarding.{forwarded, list_chosen, register_at_rp, register_received, source_here, source_joined, spt_updated, stray, watched}, Hellos.{hello_due, hello_received, hello_triggered, neighbour_due, neighbour_replaced, neighbour_restarted}, Messages.Message, Querier.{general_query_due, group_record_due, group_repeat_due, is_querier, is_skipped, lower_group, lower_queried, lower_sources, other_querier_gone, querier_elected, querier_up, query_asked, query_group, query_seen, query_sources, querying, querying_on, record_seen, report_seen, send_sources, source_record_due, source_repeat_due, sources_sent}, Records.{Asked, with_members, with_record, with_repeats_of_rows}, Registers.{register_due, register_stop_seen, settle_register, settle_registers, with_keepalive}, Seen.{cancel_override_timer, lower_join_timer, lower_override_timer, raise_join_timer, seen}, State.{Addressing, addressing_of, State, opening}, Step.{change, iface_down, iface_up, rps_replaced}, Tables.{Table, drop_at, drop_where, put, row_at}, Upstream.{join_timer_due, moved_join_timer, moved_override_timer, override_timer_due, upstream}, Writing.write_all}}
use Rattle.law_settled.{proofs.{ListLaws.{by_cond, each_filter, each_more}, RowLaws.each_put, SettlingLaws.{kept_by_clearing, kept_by_telling}, SeenLaws.kept_by_seen, TurnLaws.kept_in_turn}}
use Rattle.law_streams.{proofs.{LiesUnder.row_fires, EndSoon.no_later}}
use Rattle.law_states.{specs.{Placing.{placed_under, without_neighbours}, Reloading.{asserts_under, is_won_before, under}, Ends.{AssertsStayNear, asserts_are_near}}, proofs.{Addresses.KeepsAddresses, Rows.each_placed, Bounds.{by_each, each_by, each_replaced}, Steps.kept_test}}
use Rattle.law_plane.{specs.Keeping.kept_until}

-- what is read
pub record Read : Type 0 where
  pub present : ℕ
  pub configured : Addressing
  pub asserts : Table AssertRow

abbrev pub read : State → Read
read s = record { present = s.present; configured = s.configured; asserts = s.asserts }

-- ---- what leaves all three

pub query_read : (s : State) (i from : ℕ) (q : QueryValue) → read (query_seen s i from q) ≡ read s
unfolding query_seen lower_queried querier_elected lower_group lower_sources
query_read s i from q = grind arith

pub seen_read : (s : State) (w i : ℕ) (m : JoinPrune) → read (seen s w i m) ≡ read s
unfolding raise_join_timer lower_join_timer cancel_override_timer lower_override_timer
seen_read s w i m =
    kept_by_seen (λ t. read t ≡ read s) s w i m (λ t k end f. f) (λ t k f. f) (λ t k f. f) (λ t k f. f) refl

asked_read : (i g : ℕ) (s : State) (a : Asked) → read (query_asked i g s a).0 ≡ read s
unfolding query_asked query_group lower_group query_sources lower_sources send_sources sources_sent
asked_read i g s a = grind arith

record_read : (i : ℕ) (s : State) (r : Record) → read (record_seen i s r).0 ≡ read s
unfolding record_seen with_record with_members with_repeats_of_rows
record_read i s r =
    by_cond (λ (p : State × List Message). read p.0 ≡ read s) (is_querier s i) _ _
    (kept_in_turn (query_asked i r.group) (λ t. read t ≡ read s) (λ t a f. asked_read i r.group t a ∙ f) _ _ refl) refl

pub report_read : (s : State) (i : ℕ) (records : List Record) → read (report_seen s i records).0 ≡ read s
unfolding report_seen
report_read s i records =
    kept_in_turn (record_seen i) (λ t. read t ≡ read s) (λ t r f. record_read i t r ∙ f)
    (filter (λ r. not (is_skipped r)) records) s refl

pub pending_read : (s : State) (k : Key) (r : DownstreamRow) → read (prune_pending_due s k r).0 ≡ read s
unfolding prune_pending_due
pending_read s k r = grind arith

pub register_read : (s : State) (p : Packet) (g src : ℕ) (is_null : Bool) → read (register_received s p g src is_null).state ≡ read s
unfolding register_received register_at_rp with_keepalive
register_read s p g src is_null = grind arith

pub here_read : (s : State) (g src iif : ℕ) → read (source_here s g src iif) ≡ read s
unfolding source_here settle_register with_keepalive
here_read s g src iif = grind arith

pub updated_read : (s : State) (g src iif : ℕ) → read (spt_updated s g src iif) ≡ read s
unfolding spt_updated with_spt_bit
updated_read s g src iif = grind arith

pub joined_read : (s : State) (g src iif : ℕ) → read (source_joined s g src iif) ≡ read s
unfolding source_joined with_keepalive
joined_read s g src iif = grind arith

pub watched_read : (s : State) (g src : ℕ) → read (watched s g src) ≡ read s
unfolding watched with_keepalive
watched_read s g src = grind arith

module _ (last : ℕ) where
  abbrev pub Fits : Key × AssertRow → Type 0
  Fits e = (e.1).end ≤ last + loser_time

  abbrev pub EndBy : Table AssertRow → Type 0
  EndBy t = AllByRecursion Fits t

  pub record By (r : Read) : Type 0 where
    pub now : r.present ≤ last
    pub ends : EndBy r.asserts

  abbrev pub IsBy : State → Type 0
  IsBy s = By (read s)

  same : (s t : State) → read t ≡ read s → IsBy s → IsBy t
  same s t e f = subst By (sym e) f

  won_by : (p : ℕ) → p ≤ last → p + winner_time ≤ last + loser_time
  won_by p le = omega (arith, le)

  lost_by : (p : ℕ) → p ≤ last → p + loser_time ≤ last + loser_time
  lost_by p le = omega (arith, le)

  -- ---- single changes

  put_by : (s : State) (k : Key) (r : AssertRow) → r.end ≤ last + loser_time → IsBy s → IsBy (record s { asserts = put s.asserts k r })
  put_by s k r by f = record { now = f.now; ends = each_put k r Fits by s.asserts f.ends }

  again_by : (s : State) (k : Key) (r : AssertRow) → IsBy s → IsBy (wins_again s k r).0
  unfolding wins_again
  again_by s k r f = record {
    now = f.now;
    ends = each_replaced k (record r { end = s.present + winner_time }) Fits (λ q e. won_by s.present f.now) s.asserts f.ends;
  }

  forgotten_by : (s : State) (k : Key) → IsBy s → IsBy (assert_forgotten s k)
  unfolding assert_forgotten drop_at drop_where
  forgotten_by s k f = record { now = f.now; ends = each_filter Fits (λ e. not (same_key k e.0)) s.asserts f.ends }

  wins_by : (s : State) (k : Key) → IsBy s → IsBy (wins s k).0
  unfolding wins
  wins_by s k f = put_by s k _ (won_by s.present f.now) f

  loses_by : (s : State) (k : Key) (theirs : AssertMetric) → IsBy s → IsBy (loses s k theirs)
  unfolding loses
  loses_by s k theirs f = put_by s k _ (lost_by s.present f.now) f

  first_by : (s : State) (k : Key) (theirs : AssertMetric) → IsBy s → IsBy (loses_first s k theirs)
  unfolding loses_first with_spt_bit
  first_by s k theirs f = grind (arith, loses_by, by_cond)

  no_info_by : (s : State) (k : Key) (theirs : AssertMetric) → IsBy s → IsBy (assert_in_no_info s k theirs).0
  unfolding assert_in_no_info
  no_info_by s k theirs f = grind (arith, wins_by, first_by)

  winner_by : (s : State) (k : Key) (r : AssertRow) (theirs : AssertMetric) → IsBy s → IsBy (assert_as_winner s k r theirs).0
  unfolding assert_as_winner
  winner_by s k r theirs f = grind (arith, loses_by, again_by)

  loser_by : (s : State) (k : Key) (r : AssertRow) (theirs : AssertMetric) → IsBy s → IsBy (assert_as_loser s k r theirs)
  unfolding assert_as_loser
  loser_by s k r theirs f = grind (arith, loses_by, forgotten_by)

  at_by : (s : State) (k : Key) (theirs : AssertMetric) → IsBy s → IsBy (assert_at s k theirs).0
  unfolding assert_at
  at_by s k theirs f = grind (arith, no_info_by, winner_by, loser_by)

  received_by : (s : State) (i from : ℕ) (a : AssertMessage) → IsBy s → IsBy (assert_received s i from a).0
  unfolding assert_received
  received_by s i from a f = grind (arith, at_by)

  seen_by : (s : State) (k : Key) → IsBy s → IsBy (data_seen s k).0
  unfolding data_seen
  seen_by s k f = grind (arith, wins_by)

  chosen_by : (s : State) (g src iif : ℕ) → IsBy s → IsBy (list_chosen s g src iif).state
  unfolding list_chosen stray
  chosen_by s g src iif f = grind (arith, seen_by, same, watched_read)

  forwarded_by : (s : State) (g src iif : ℕ) → IsBy s → IsBy (forwarded s g src iif).state
  unfolding forwarded
  forwarded_by s g src iif f =
      chosen_by _ g src iif
      (subst By (sym (updated_read (source_joined (source_here s g src iif) g src iif) g src iif
      ∙ joined_read (source_here s g src iif) g src iif ∙ here_read s g src iif)) f)

  hello_by : (s : State) (i address : ℕ) (h : HelloValue) (w : ℕ) → IsBy s → IsBy (hello_received s i address h w)
  unfolding hello_received hello_triggered neighbour_replaced neighbour_restarted
  hello_by s i address h w f = grind (arith, each_filter)

  to_me_by : (s : State) (i : ℕ) (m : JoinPrune) → IsBy s → IsBy (to_me s i m)
  unfolding to_me keys_taken asserts_after_joins
  to_me_by s i m f = record { now = f.now; ends = each_filter Fits _ s.asserts f.ends }

  due_by : (s : State) (k : Key) (r : AssertRow) → IsBy s → IsBy (assert_due s k r).0
  unfolding assert_due
  due_by s k r f = grind (arith, again_by, forgotten_by)

  -- ---- what follows

  follows : (o : State) (c : State × List Message) (w : ℕ) → IsBy c.0 → IsBy (settled o c w).0
  unfolding settled write_all settle_registers without_spt_bit moved_join_timer moved_override_timer
  follows o c w f =
      let after : State = (clear o c.0).0 in
      let clears : IsBy after = kept_by_clearing IsBy forgotten_by (λ s k e. record { now = e.now; ends = e.ends }) o c.0 (record { now = f.now; ends = f.ends }) in
      let told : State = (upstream o after w).0 in
      let tells : read told ≡ read after =
      kept_by_telling (λ n. Unit {0}) after w (λ d some. tt) (λ t. read t ≡ read after) (λ s k d fair e. e) (λ s k d fair e. e) o refl in
      let by : IsBy told = subst By (sym tells) clears in
      record { now = by.now; ends = by.ends }

  -- ---- a timer that expires

  fires : (s : State) (kind : TimerKind) (k : Key) → IsBy s → IsBy (fired s kind k).0
  unfolding fired fire_row downstream_expired neighbour_due keepalive_due override_timer_due join_timer_due
      other_querier_gone querying_on general_query_due hello_due register_due group_repeat_due source_repeat_due sources_sent
      group_record_due source_record_due with_members with_repeats_of_rows
  fires s TimerKind.Neighbour k f = grind arith
  fires s TimerKind.PrunePending k f = row_fires IsBy s (prune_pending_due s k) (row_at s.downstream k) f (λ r. subst By (sym (pending_read s k r)) f)
  fires s TimerKind.DownstreamExpiry k f = grind arith
  fires s TimerKind.GroupRecord k f = grind arith
  fires s TimerKind.SourceRecord k f = grind arith
  fires s TimerKind.Assert k f = row_fires IsBy s (assert_due s k) (row_at s.asserts k) f (λ r. due_by s k r f)
  fires s TimerKind.Keepalive k f = grind (arith, row_fires)
  fires s TimerKind.Register k f = grind (arith, row_fires)
  fires s TimerKind.Override k f = grind arith
  fires s TimerKind.Join k f = grind arith
  fires s TimerKind.OtherQuerier k f = grind arith
  fires s TimerKind.GroupRepeat k f = grind (arith, row_fires)
  fires s TimerKind.SourceRepeat k f = grind arith
  fires s TimerKind.GeneralQuery k f = grind (arith, row_fires)
  fires s TimerKind.Hello k f = grind (arith, row_fires)

  -- ---- each event's own change

  changes : (s : State) (w : ℕ) (a : Accepted) → IsBy s → IsBy (change s w a).state
  unfolding change iface_up querier_up querying rps_replaced register_stop_seen iface_down drop_where
  changes s w (Accepted.Advance moment) f = f
  changes s w (Accepted.Up i) f = record { now = f.now; ends = f.ends }
  changes s w (Accepted.Down i) f = record { now = f.now; ends = each_filter Fits (λ e. not (is_on i.number e.0)) s.asserts f.ends }
  changes s w (Accepted.Routes routes) f = record { now = f.now; ends = f.ends }
  changes s w (Accepted.Rps ranges) f = record { now = f.now; ends = f.ends }
  changes s w (Accepted.Hello i from h) f = hello_by s i.number from.bits h w f
  changes s w (Accepted.JoinPruneToMe i m) f = to_me_by s i.number m f
  changes s w (Accepted.JoinPruneSeen i m) f = subst By (sym (seen_read s w i.number m)) f
  changes s w (Accepted.Assert i from a) f = received_by s i.number from.bits a f
  changes s w (Accepted.Query i from q) f = subst By (sym (query_read s i.number from.bits q)) f
  changes s w (Accepted.Report i records) f = subst By (sym (report_read s i.number records)) f
  changes s w (Accepted.Data i p) f = forwarded_by s p.destination p.source i.number f
  changes s w (Accepted.Register p (Encapsulated inner)) f = subst By (sym (register_read s p inner.destination inner.source false)) f
  changes s w (Accepted.Register p (Null source group)) f = subst By (sym (register_read s p group source true)) f
  changes s w (Accepted.RegisterStop from r) f = record { now = f.now; ends = f.ends }

  moves : (m : ℕ) → m ≤ last → (s : State) → IsBy s → IsBy (record s { present = m })
  moves m le s f = record { now = le; ends = f.ends }

  unders : (s : State) (c : Config) → IsBy s → IsBy (under s c)
  unfolding under rps_replaced asserts_under
  unders s c f = record { now = f.now; ends = each_filter Fits (λ e. not (is_won_before s (addressing_of c) e)) s.asserts f.ends }

  keeps : (s : State) (g src end : ℕ) → IsBy s → IsBy (kept_until s g src end)
  unfolding kept_until
  keeps s g src end f = record { now = f.now; ends = f.ends }

  goes : (s : State) (places : List ℕ) (c : Config) → KeepsAddresses s places c → IsBy s → IsBy (placed_under s places c)
  unfolding placed_under
  goes s places c same f = record { now = f.now; ends = each_placed places Fits Fits (λ e h. h) s.asserts f.ends }

  parts : (s : State) (apart : List ℕ) → IsBy s → IsBy (without_neighbours apart s)
  unfolding without_neighbours
  parts s apart f = record { now = f.now; ends = f.ends }

further : (a b n : ℕ) → a ≤ b → n ≤ a + loser_time → n ≤ b + loser_time
further a b n le f = omega (arith, le, f)

earlier : (p a b : ℕ) → a ≤ b → p ≤ a → p ≤ b
earlier p a b le f = omega (arith, le, f)

later : (a b : ℕ) → a ≤ b → (s : State) → IsBy a s → IsBy b s
later a b le s f = record {
  now = earlier s.present a b le f.now;
  ends = each_more (Fits a) (Fits b) (λ e h. further a b (e.1).end le h) s.asserts f.ends;
}

module _ (s : State) where
  tested : asserts_are_near s ≡ true → IsBy s.present s
  unfolding asserts_are_near
  tested e = record {
    now = no_later s.present;
    ends = each_by (λ (x : Key × AssertRow). (x.1).end) (s.present + loser_time) s.asserts e;
  }

  passes : IsBy s.present s → asserts_are_near s ≡ true
  unfolding asserts_are_near
  passes f = by_each (λ (x : Key × AssertRow). (x.1).end) (s.present + loser_time) s.asserts f.ends

opening_near : (c : Config) → asserts_are_near (opening c) ≡ true
unfolding opening asserts_are_near
opening_near c = refl

pub asserts_stay_near : AssertsStayNear
asserts_stay_near =
    kept_test IsBy later moves fires follows changes unders keeps goes parts asserts_are_near tested passes opening_near
