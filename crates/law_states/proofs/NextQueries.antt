-- Queriers: what an event makes of their rows.
use Rattle.std.{proofs.{Common.{◌≡◌, ◌==◌, ◌&&◌, ◌∙◌, ℕ, ◌+◌, ◌-◌, ◌*◌, ◌/◌, ◌≤◌, not, nat_le, nat_lt, Bool, true, false, cond, List, [], ◌∷◌, filter, length, Option, option_map, Some, None, refl, sym, ap, subst, arith, eqb-true, eq-eqb}, lemmas.Bool.Decides.nat_tests}, specs.{Cmp.{first_so, second_so}, List.{AllByRecursion}, Option.option_map_or}}
use Rattle.pim_ip.{specs.Ipv4.Packet}
use Rattle.pim_types.{specs.{Keys.{iface_in, iface_key, is_on, same_key}, declared.{config.{Config.Config, Settings.Settings}, event.Event.Event, fact.{AssertMetric.AssertMetric, AssertRow.AssertRow, DownstreamRow.DownstreamRow, InterfaceRow.InterfaceRow, Key.Key, QuerierRole.QuerierRole, QuerierRow.QuerierRow}, timer.TimerKind.TimerKind}}, proofs.Keys.{equal_keys, same_key_same}}
use Rattle.pim_wire.{specs.{declared.{assert.Assert.Assert as AssertMessage, hello.Hello.Hello as HelloValue}, Values.{Encapsulated, JoinPrune, Null}}}
use Rattle.igmp_wire.{specs.{Codes.code_value, Values.{Query as QueryValue, Record}}}
use Rattle.pim_model.{specs.{declared.accepted.Accepted.Accepted, Asserts.{assert_as_loser, assert_as_winner, assert_at, assert_due, assert_forgotten, assert_in_no_info, assert_received, data_seen, loses, loses_first, wins, wins_again, with_spt_bit}, Downstream.{asserts_after_joins, downstream_expired, keys_taken, prune_pending_due, to_me}, Firing.{fire_all, fire_instant, fire_once, fire_row, fired, keepalive_due, settled, startup_left}, Forwarding.{forwarded, list_chosen, register_at_rp, register_received, source_here, source_joined, spt_updated, stray, watched}, Hellos.{hello_due, hello_received, hello_triggered, neighbour_due, neighbour_replaced, neighbour_restarted, triggered_hello_delay}, Messages.Message, Querier.{general_query_due, group_record_due, group_repeat_due, lower_group, is_lower_querier, is_querier, is_skipped, lower_queried, lower_sources, other_querier_gone, querier_elected, querier_row, querier_up, query_asked, query_group, query_interval, query_seen, query_sources, querying, querying_on, record_seen, report_seen, send_sources, source_record_due, source_repeat_due, sources_sent, startup_query_interval}, Records.{Asked, with_members, with_record, with_repeats_of_rows}, Registers.{register_due, register_stop_seen, settle_register, with_keepalive}, Seen.{cancel_override_timer, lower_join_timer, lower_override_timer, raise_join_timer, seen}, State.{State, settings_of}, Step.{advanced, change, iface_down, iface_up, rps_replaced, step}, Tables.{Table, change_row, changed_entry, delay_in, drop_where, put, row_at, same_option}, Timers.{Ending, next_due, next_query, timers}, Upstream.{join_timer_due, override_timer_due}}}
use Rattle.law_settled.{specs.{Laws.{is_querier_entry}, Ready.{IsLawful}}, proofs.{Ends.{Ends, shows}, LawfulFiring.one_firing_is_lawful, ListLaws.{by_cond, each_filter, each_filter_map, each_more, each_of_list, list_of_each}, RowLaws.{each_put, row_put}, SettledStates.settled_is_lawful, TableLaws.row_of_each, TimerLaws.{IsNext, is_next}, TurnLaws.{kept_in_turn, kept_to_the_end}, SeenLaws.kept_by_seen}}
use Rattle.law_streams.{proofs.{LiesUnder.row_fires, Walks.event_walks, EndSoon.{no_later, change_present}, Lasts.only_row}}
use Rattle.law_states.{specs.{ReloadLaws.{is_near_by, next_query_is_near}, Reload.config_of, Placing.{Places, gone_on, in_order, moved, placed_under, reload_by, without_neighbours}, Queries.NextQueryStaysNear}, proofs.{Ground.replaced_is_under, Queriers.{Asked as Read, asked, replaced_near, settled_asked}, Rows.each_placed, Ups.{gone, new, order, renewed}}}
use Rattle.law_plane.{specs.Keeping.{keep, kept_until}, proofs.Keeps.keep_by}

-- ---- what leaves queriers alone

pub to_me_asked : (s : State) (i : ℕ) (m : JoinPrune) → asked (to_me s i m) ≡ asked s
unfolding to_me keys_taken asserts_after_joins
to_me_asked s i m = refl

pub hello_asked : (s : State) (i address : ℕ) (h : HelloValue) (w : ℕ) → asked (hello_received s i address h w) ≡ asked s
unfolding hello_received hello_triggered neighbour_replaced neighbour_restarted
hello_asked s i address h w = grind arith

pub seen_asked : (s : State) (w i : ℕ) (m : JoinPrune) → asked (seen s w i m) ≡ asked s
unfolding raise_join_timer lower_join_timer cancel_override_timer lower_override_timer
seen_asked s w i m =
    kept_by_seen (λ t. asked t ≡ asked s) s w i m (λ t k end f. f) (λ t k f. f) (λ t k f. f) (λ t k f. f) refl

at_asked : (s : State) (k : Key) (theirs : AssertMetric) → asked (assert_at s k theirs).0 ≡ asked s
unfolding assert_at assert_in_no_info assert_as_winner assert_as_loser wins wins_again loses loses_first with_spt_bit
    assert_forgotten
at_asked s k theirs = grind arith

pub assert_asked : (s : State) (i from : ℕ) (a : AssertMessage) → asked (assert_received s i from a).0 ≡ asked s
unfolding assert_received
assert_asked s i from a = grind (arith, at_asked)

here_asked : (s : State) (g src iif : ℕ) → asked (source_here s g src iif) ≡ asked s
unfolding source_here settle_register with_keepalive
here_asked s g src iif = grind arith

chosen_asked : (s : State) (g src iif : ℕ) → asked (list_chosen s g src iif).state ≡ asked s
unfolding list_chosen stray watched with_keepalive data_seen wins
chosen_asked s g src iif = grind arith

updated_asked : (s : State) (g src iif : ℕ) → asked (spt_updated s g src iif) ≡ asked s
unfolding spt_updated with_spt_bit
updated_asked s g src iif = grind arith

joined_asked : (s : State) (g src iif : ℕ) → asked (source_joined s g src iif) ≡ asked s
unfolding source_joined with_keepalive
joined_asked s g src iif = grind arith

pub data_asked : (s : State) (g src iif : ℕ) → asked (forwarded s g src iif).state ≡ asked s
unfolding forwarded
data_asked s g src iif = grind (arith, chosen_asked, updated_asked, joined_asked, here_asked)

pub register_asked : (s : State) (p : Packet) (g src : ℕ) (is_null : Bool) → asked (register_received s p g src is_null).state ≡ asked s
unfolding register_received register_at_rp with_keepalive
register_asked s p g src is_null = grind arith

request_asked : (i g : ℕ) (s : State) (a : Asked) → asked (query_asked i g s a).0 ≡ asked s
unfolding query_asked query_group lower_group query_sources lower_sources send_sources sources_sent
request_asked i g s a = grind arith

pub record_asked : (i : ℕ) (s : State) (r : Record) → asked (record_seen i s r).0 ≡ asked s
unfolding record_seen with_record with_members with_repeats_of_rows
record_asked i s r =
    by_cond (λ (p : State × List Message). asked p.0 ≡ asked s) (is_querier s i) _ _
    (kept_in_turn (query_asked i r.group) (λ t. asked t ≡ asked s) (λ t a f. request_asked i r.group t a ∙ f) _ _ refl) refl

pub report_asked : (s : State) (i : ℕ) (records : List Record) → asked (report_seen s i records).0 ≡ asked s
unfolding report_seen
report_asked s i records =
    kept_in_turn (record_seen i) (λ t. asked t ≡ asked s) (λ t r f. record_asked i t r ∙ f)
    (filter (λ r. not (is_skipped r)) records) s refl

pub pending_asked : (s : State) (k : Key) (r : DownstreamRow) → asked (prune_pending_due s k r).0 ≡ asked s
unfolding prune_pending_due
pending_asked s k r = grind arith

pub assert_due_asked : (s : State) (k : Key) (r : AssertRow) → asked (assert_due s k r).0 ≡ asked s
unfolding assert_due wins_again assert_forgotten
assert_due_asked s k r = grind arith

pub lowered_asked : (s : State) (i : ℕ) (q : QueryValue) → asked (lower_queried s i q) ≡ asked s
unfolding lower_queried lower_group lower_sources
lowered_asked s i q = grind arith

none : {X : Type 0} → false ≡ true → X
none e = absurd cc

some_is : {A : Type 0} (a b : A) → Some a ≡ Some b → a ≡ b
some_is a b e = cc

both_so : (a b : Bool) → a ≡ true → b ≡ true → (a && b) ≡ true
both_so true b e f = f
both_so false b e f = absurd cc

at_most : (a b : ℕ) → nat_le a b ≡ true → a ≤ b
at_most a b e = grind (arith, nat_tests, e)

le_so : (a b : ℕ) → a ≤ b → nat_le a b ≡ true
le_so a b le = grind (arith, nat_tests, le)

-- ---- a row by a moment

module _ (last : ℕ) (t : Settings) where
  pub record Querying (q : QuerierRow) (next left : ℕ) : Type 0 where
    pub robustness : q.robustness ≡ t.robustness
    pub interval : q.query_interval ≡ t.query_interval
    pub soon : next ≤ last + 1000 * t.query_interval
    pub few : left ≤ t.robustness

  abbrev pub ByRole : QuerierRow → QuerierRole → Type 0
  ByRole q (QuerierRole.Querier next left) = Querying q next left
  ByRole q (QuerierRole.NonQuerier end) = Unit {0}

  abbrev pub Row : Key × QuerierRow → Type 0
  Row e = ByRole e.1 (e.1).role

module _ (last : ℕ) where
  pub record By (a : Read) : Type 0 where
    pub now : a.present ≤ last
    pub rows : AllByRecursion (Row last a.settings) a.queriers

  abbrev pub IsBy : State → Type 0
  IsBy s = By (asked s)

  row_by : (s : State) (next left : ℕ) → next ≤ last + 1000 * s.settings.query_interval → left ≤ s.settings.robustness
      → (k : Key) → Row last s.settings (k, querier_row s next left)
  unfolding querier_row
  row_by s next left soon few k = record { robustness = refl; interval = refl; soon = soon; few = few }

  put_by : (s : State) (k : Key) (q : QuerierRow) → Row last s.settings (k, q) → IsBy s → IsBy (record s { queriers = put s.queriers k q })
  put_by s k q by f = record { now = f.now; rows = each_put k q (Row last s.settings) by s.queriers f.rows }

  changed_by : (u : Settings) (k : Key) (q : QuerierRow) → Row last u (k, q) → (x y : Key × QuerierRow) (b : Bool)
      → cond b (option_map (λ (r : QuerierRow). let p : Key × QuerierRow = (x.0, r) in p) (Some q)) (Some x) ≡ Some y
      → Row last u x → Row last u y
  changed_by u k q by x y true e f = subst (λ (z : Key × QuerierRow). Row last u z) (some_is (x.0, q) y e) by
  changed_by u k q by x y false e f = subst (λ (z : Key × QuerierRow). Row last u z) (some_is x y e) f

  change_by : (s : State) (k : Key) (q : QuerierRow) → Row last s.settings (k, q) → IsBy s
      → IsBy (record s { queriers = change_row (λ (old : QuerierRow). Some q) k s.queriers })
  unfolding change_row changed_entry
  change_by s k q by f = record {
    now = f.now;
    rows = each_filter_map (Row last s.settings) (Row last s.settings) _
        (λ x y e h. changed_by s.settings k q by x y (same_key k x.0) e h) s.queriers f.rows;
  }

  -- ---- intervals

  soon_by : (p d n : ℕ) → p ≤ last → d ≤ 1000 * n → p + d ≤ last + 1000 * n
  soon_by p d n le f = omega (arith, le, f)

  interval_is : (s : State) (i : ℕ) → ((r : QuerierRow) → row_at s.queriers (iface_key i) ≡ Some r → r.query_interval ≡ s.settings.query_interval)
      → query_interval s i ≡ 1000 * s.settings.query_interval
  unfolding query_interval
  interval_is s i same = at (row_at s.queriers (iface_key i)) same where
    at : (o : Option QuerierRow) → ((r : QuerierRow) → o ≡ Some r → r.query_interval ≡ s.settings.query_interval)
        → 1000 * option_map_or (λ (q : QuerierRow). q.query_interval) o s.settings.query_interval ≡ 1000 * s.settings.query_interval
    at None same = refl
    at (Some r) same = ap (λ (n : ℕ). 1000 * n) (same r refl)

  quarter : (a n : ℕ) → a ≡ 1000 * n → a / 4 ≤ 1000 * n
  quarter a n e = omega (arith, e)

  whole : (a n : ℕ) → a ≡ 1000 * n → a ≤ 1000 * n
  whole a n e = omega (arith, e)

  one_less : (n : ℕ) → n - 1 ≤ n
  one_less n = omega arith

  -- ---- up, and another querier

  started_is : (s : State) (i next left : ℕ) → query_interval (querying s i next left) i ≡ 1000 * s.settings.query_interval
  unfolding querying querier_row
  started_is s i next left =
      interval_is (querying s i next left) i
      (λ r e. ap (λ (q : QuerierRow). q.query_interval) (some_is r (querier_row s next left) (sym e ∙ row_put (iface_key i) (querier_row s next left) s.queriers)))

  up_by : (s : State) (i : ℕ) → IsBy s → IsBy (querier_up s i).0
  unfolding querier_up querying startup_query_interval
  up_by s i f =
      put_by s (iface_key i) _
      (row_by s (s.present + startup_query_interval (querying s i 0 0) i) (s.settings.robustness - 1)
      (soon_by s.present (startup_query_interval (querying s i 0 0) i) s.settings.query_interval f.now (quarter (query_interval (querying s i 0 0) i) s.settings.query_interval (started_is s i 0 0)))
      (one_less s.settings.robustness) (iface_key i)) f

  elected_by : (s : State) (i qrv qqi : ℕ) → IsBy s → IsBy (querier_elected s i qrv qqi)
  unfolding querier_elected
  elected_by s i qrv qqi f = record { now = f.now; rows = each_put (iface_key i) _ (Row last s.settings) tt s.queriers f.rows }

  query_by : (s : State) (i from : ℕ) (q : QueryValue) → IsBy s → IsBy (query_seen s i from q)
  unfolding query_seen
  query_by s i from q f =
      subst By (sym (lowered_asked (cond (is_lower_querier s i from) (querier_elected s i q.robustness (code_value q.interval_code)) s) i q))
      (by_cond IsBy (is_lower_querier s i from) (querier_elected s i q.robustness (code_value q.interval_code)) s (elected_by s i q.robustness (code_value q.interval_code) f) f)

  -- ---- each event's own change

  changes_by : (s : State) (w : ℕ) (a : Accepted) → IsBy s → IsBy (change s w a).state
  unfolding change iface_up rps_replaced register_stop_seen iface_down drop_where
  changes_by s w (Accepted.Advance moment) f = f
  changes_by s w (Accepted.Up i) f =
      let row : InterfaceRow = record { generation = w; hello_end = s.present + delay_in 1 triggered_hello_delay w; is_hello_owed = true } in
      up_by (record s { interfaces = put s.interfaces (iface_key i.number) row }) i.number (record { now = f.now; rows = f.rows })
  changes_by s w (Accepted.Down i) f = record { now = f.now; rows = each_filter (Row last s.settings) (λ e. not (is_on i.number e.0)) s.queriers f.rows }
  changes_by s w (Accepted.Routes routes) f = record { now = f.now; rows = f.rows }
  changes_by s w (Accepted.Rps ranges) f = record { now = f.now; rows = f.rows }
  changes_by s w (Accepted.Hello i from h) f = subst By (sym (hello_asked s i.number from.bits h w)) f
  changes_by s w (Accepted.JoinPruneToMe i m) f = subst By (sym (to_me_asked s i.number m)) f
  changes_by s w (Accepted.JoinPruneSeen i m) f = subst By (sym (seen_asked s w i.number m)) f
  changes_by s w (Accepted.Assert i from a) f = subst By (sym (assert_asked s i.number from.bits a)) f
  changes_by s w (Accepted.Query i from q) f = query_by s i.number from.bits q f
  changes_by s w (Accepted.Report i records) f = subst By (sym (report_asked s i.number records)) f
  changes_by s w (Accepted.Data i p) f = subst By (sym (data_asked s p.destination p.source i.number)) f
  changes_by s w (Accepted.Register p (Encapsulated inner)) f = subst By (sym (register_asked s p inner.destination inner.source false)) f
  changes_by s w (Accepted.Register p (Null source group)) f = subst By (sym (register_asked s p group source true)) f
  changes_by s w (Accepted.RegisterStop from r) f = record { now = f.now; rows = f.rows }

  -- ---- a timer that expires

  on_interval : (s : State) (i next left : ℕ) → query_interval (querying_on s i next left) i ≡ 1000 * s.settings.query_interval
  unfolding querying_on querier_row change_row changed_entry
  on_interval s i next left =
      interval_is (querying_on s i next left) i
      (λ r e. row_of_each (λ x. same_key (iface_key i) x.0 ≡ true → (x.1).query_interval ≡ s.settings.query_interval) (iface_key i) r
      (change_row (λ (old : QuerierRow). Some (querier_row s next left)) (iface_key i) s.queriers) (each_changed s.queriers) e (same_key_same (iface_key i)))
    where
      Changed : Key × QuerierRow → Type 0
      Changed x = same_key (iface_key i) x.0 ≡ true → (x.1).query_interval ≡ s.settings.query_interval

      one_changed : (x y : Key × QuerierRow) (b : Bool) → same_key (iface_key i) x.0 ≡ b
          → cond b (option_map (λ (r : QuerierRow). let p : Key × QuerierRow = (x.0, r) in p) (Some (querier_row s next left))) (Some x) ≡ Some y → Changed y
      one_changed x y true is e = subst Changed (some_is (x.0, querier_row s next left) y e) (λ same. refl)
      one_changed x y false is e = subst Changed (some_is x y e) (λ same. absurd (none (sym is ∙ same)))

      units : (rows : Table QuerierRow) → AllByRecursion (λ x. Unit {0}) rows
      units [] = tt
      units (x ∷ rows) = (tt, units rows)

      each_changed : (rows : Table QuerierRow) → AllByRecursion Changed (change_row (λ (old : QuerierRow). Some (querier_row s next left)) (iface_key i) rows)
      each_changed rows =
          each_filter_map (λ x. Unit {0}) Changed _ (λ x y e h. one_changed x y (same_key (iface_key i) x.0) refl e) rows (units rows)

  on_by : (s : State) (i next left : ℕ) → next ≤ last + 1000 * s.settings.query_interval → left ≤ s.settings.robustness → IsBy s
      → IsBy (querying_on s i next left)
  unfolding querying_on
  on_by s i next left soon few f = change_by s (iface_key i) (querier_row s next left) (row_by s next left soon few (iface_key i)) f

  gone_by : (s : State) (i : ℕ) → IsBy s → IsBy (other_querier_gone s i).0
  unfolding other_querier_gone
  gone_by s i f =
      on_by s i (s.present + query_interval (querying_on s i 0 0) i) 0
      (soon_by s.present (query_interval (querying_on s i 0 0) i) s.settings.query_interval f.now (whole (query_interval (querying_on s i 0 0) i) s.settings.query_interval (on_interval s i 0 0)))
      (omega arith) f

  by_test : (b : Bool) (x y n : ℕ) → x ≤ n → y ≤ n → cond b x y ≤ n
  by_test true x y n le f = le
  by_test false x y n le f = f

  less : (left n : ℕ) → left ≤ n → left - 1 ≤ n
  less left n le = omega (arith, le)

  query_due_by : (s : State) (i left : ℕ) → query_interval s i ≡ 1000 * s.settings.query_interval → left ≤ s.settings.robustness → IsBy s
      → IsBy (general_query_due s i left).0
  unfolding general_query_due startup_query_interval
  query_due_by s i left interval few f =
      on_by s i (s.present + cond (nat_lt 1 left) (startup_query_interval s i) (query_interval s i)) (left - 1)
      (soon_by s.present (cond (nat_lt 1 left) (startup_query_interval s i) (query_interval s i)) s.settings.query_interval f.now
      (by_test (nat_lt 1 left) (startup_query_interval s i) (query_interval s i) (1000 * s.settings.query_interval)
      (quarter (query_interval s i) s.settings.query_interval interval) (whole (query_interval s i) s.settings.query_interval interval)))
      (less left s.settings.robustness few) f

  -- the row whose general query is due is of a querier
  module _ (u : Settings) (x : ℕ) where
    pub record Its (q : QuerierRow) : Type 0 where
      pub interval : q.query_interval ≡ u.query_interval
      pub few : startup_left q.role ≤ u.robustness

    its : (q : QuerierRow) (role : QuerierRole) → q.role ≡ role → same_option (next_query role) (Some x) ≡ true → ByRole last u q role → Its q
    its q (QuerierRole.Querier next left) e shown f = record { interval = f.interval; few = subst (λ (r : QuerierRole). startup_left r ≤ u.robustness) (sym e) f.few }
    its q (QuerierRole.NonQuerier end) e shown f = absurd (none shown)

  general_by : (s : State) (k : Key) (x : ℕ) → IsLawful s → shows TimerKind.GeneralQuery (Ends k x) s ≡ true → IsBy s → (r : QuerierRow)
      → row_at s.queriers k ≡ Some r → IsBy (general_query_due s (iface_in k) (startup_left r.role)).0
  general_by s k x lawful shown f r is =
      let due : same_option (next_query r.role) (Some x) ≡ true =
      only_row k (λ (e : Key × QuerierRow). same_option (next_query (e.1).role) (Some x)) r s.queriers lawful.ordered.queriers is shown
      (λ y same key passes. subst (λ (z : QuerierRow). same_option (next_query z.role) (Some x) ≡ true) same passes) in
      let mine : Its s.settings x r = its s.settings x r r.role refl due (row_of_each (Row last s.settings) k r s.queriers f.rows is) in
      let entry : is_querier_entry (k, r) ≡ true =
      row_of_each (λ e. is_querier_entry e ≡ true) k r s.queriers (each_of_list is_querier_entry s.queriers lawful.firable.queriers) is in
      let key : iface_key (iface_in k) ≡ k = equal_keys (iface_key (iface_in k)) k (first_so (same_key (iface_key (iface_in k)) k) _ entry) in
      let interval : query_interval s (iface_in k) ≡ 1000 * s.settings.query_interval =
      interval_is s (iface_in k)
      (λ q e. ap (λ (z : QuerierRow). z.query_interval) (some_is q r (sym e ∙ ap (row_at s.queriers) key ∙ is)) ∙ mine.interval) in
      query_due_by s (iface_in k) (startup_left r.role) interval mine.few f

  fires_by : (s : State) (kind : TimerKind) (k : Key) (x : ℕ) → IsLawful s → shows kind (Ends k x) s ≡ true → IsBy s → IsBy (fired s kind k).0
  unfolding fired fire_row downstream_expired neighbour_due keepalive_due override_timer_due join_timer_due
      hello_due register_due group_repeat_due source_repeat_due sources_sent group_record_due source_record_due with_members with_repeats_of_rows
  fires_by s TimerKind.Neighbour k x lawful shown f = grind arith
  fires_by s TimerKind.PrunePending k x lawful shown f = row_fires IsBy s (prune_pending_due s k) (row_at s.downstream k) f (λ r. subst By (sym (pending_asked s k r)) f)
  fires_by s TimerKind.DownstreamExpiry k x lawful shown f = grind arith
  fires_by s TimerKind.GroupRecord k x lawful shown f = grind arith
  fires_by s TimerKind.SourceRecord k x lawful shown f = grind arith
  fires_by s TimerKind.Assert k x lawful shown f = row_fires IsBy s (assert_due s k) (row_at s.asserts k) f (λ r. subst By (sym (assert_due_asked s k r)) f)
  fires_by s TimerKind.Keepalive k x lawful shown f = grind (arith, row_fires)
  fires_by s TimerKind.Register k x lawful shown f = grind (arith, row_fires)
  fires_by s TimerKind.Override k x lawful shown f = grind arith
  fires_by s TimerKind.Join k x lawful shown f = grind arith
  fires_by s TimerKind.OtherQuerier k x lawful shown f = gone_by s (iface_in k) f
  fires_by s TimerKind.GroupRepeat k x lawful shown f = grind (arith, row_fires)
  fires_by s TimerKind.SourceRepeat k x lawful shown f = grind arith
  fires_by s TimerKind.GeneralQuery k x lawful shown f = found (row_at s.queriers k) refl where
    found : (o : Option QuerierRow) → row_at s.queriers k ≡ o
        → IsBy (option_map_or (λ (r : QuerierRow). general_query_due s (iface_in k) (startup_left r.role)) o (s, [])).0
    found None e = f
    found (Some r) e = general_by s k x lawful shown f r e
  fires_by s TimerKind.Hello k x lawful shown f = grind (arith, row_fires)

  -- ---- time

  pub record Sound (s : State) : Type 0 where
    pub lawful : IsLawful s
    pub by : IsBy s

  at_lawful : (s : State) (p : ℕ) → IsLawful s → IsLawful (record s { present = p })
  at_lawful s p f = record {
    ordered = record {
      interfaces = f.ordered.interfaces;
      neighbours = f.ordered.neighbours;
      queriers = f.ordered.queriers;
      group_records = f.ordered.group_records;
      source_records = f.ordered.source_records;
      group_repeats = f.ordered.group_repeats;
      source_repeats = f.ordered.source_repeats;
      sendings = f.ordered.sendings;
      downstream = f.ordered.downstream;
      asserts = f.ordered.asserts;
      join_timers = f.ordered.join_timers;
      override_timers = f.ordered.override_timers;
      sources = f.ordered.sources;
      registers = f.ordered.registers;
    };
    firable = record {
      robustness = f.firable.robustness;
      query_interval = f.firable.query_interval;
      last_member_query_interval = f.firable.last_member_query_interval;
      queriers = f.firable.queriers;
      group_records = f.firable.group_records;
      source_records = f.firable.source_records;
      group_repeats = f.firable.group_repeats;
      source_repeats = f.firable.source_repeats;
    };
    tidy = record {
      neighbours = f.tidy.neighbours;
      queriers = f.tidy.queriers;
      group_records = f.tidy.group_records;
      source_records = f.tidy.source_records;
      group_repeats = f.tidy.group_repeats;
      source_repeats = f.tidy.source_repeats;
      sendings = f.tidy.sendings;
      downstream = f.tidy.downstream;
      asserts = f.tidy.asserts;
      sources = f.tidy.sources;
    };
  }

  shown_at : (s : State) (p : ℕ) (kind : TimerKind) (k : Key) (x : ℕ) → shows kind (Ends k x) s ≡ true
      → shows kind (Ends k x) (record s { present = p }) ≡ true
  shown_at s p TimerKind.Neighbour k x e = e
  shown_at s p TimerKind.PrunePending k x e = e
  shown_at s p TimerKind.DownstreamExpiry k x e = e
  shown_at s p TimerKind.GroupRecord k x e = e
  shown_at s p TimerKind.SourceRecord k x e = e
  shown_at s p TimerKind.Assert k x e = e
  shown_at s p TimerKind.Keepalive k x e = e
  shown_at s p TimerKind.Register k x e = e
  shown_at s p TimerKind.Override k x e = e
  shown_at s p TimerKind.Join k x e = e
  shown_at s p TimerKind.OtherQuerier k x e = e
  shown_at s p TimerKind.GroupRepeat k x e = e
  shown_at s p TimerKind.SourceRepeat k x e = e
  shown_at s p TimerKind.GeneralQuery k x e = e
  shown_at s p TimerKind.Hello k x e = e

  no_more : (a b c : ℕ) → a ≤ b → b ≤ c → a ≤ c
  no_more a b c x y = omega (arith, x, y)

  once_sound : (w m : ℕ) (s : State) (e : Ending) → next_due m s ≡ Some e → m ≤ last → Sound s → Sound (fire_once w s e).0
  unfolding fire_once
  once_sound w m s e its_next le f =
      let next : IsNext m s e = is_next m s e its_next in
      let at : State = record s { present = e.end } in
      let now : e.end ≤ last = no_more e.end m last next.due le in
      record {
        lawful = one_firing_is_lawful w s e f.lawful;
        by = subst By (sym (settled_asked s (fired at e.timer.kind e.timer.key) w))
            (fires_by at e.timer.kind e.timer.key e.end (at_lawful s e.end f.lawful) (shown_at s e.end e.timer.kind e.timer.key e.end next.shown) (record { now = now; rows = f.by.rows }));
      }

  instant_sound : (w : ℕ) (s : State) (e : Ending) → e.end ≤ last → Sound s → Sound (fire_instant w s e).0
  unfolding fire_instant
  instant_sound w s e le f =
      kept_to_the_end (next_due e.end) (fire_once w) Sound (λ t d g there. once_sound w e.end t d there le g) (length (timers s) + 1) s f

  all_sound : (w moment : ℕ) (s : State) → moment ≤ last → Sound s → Sound (fire_all w moment s).0
  unfolding fire_all
  all_sound w moment s le f =
      kept_to_the_end (next_due moment) (fire_instant w) Sound
      (λ t d g there. instant_sound w t d (no_more d.end moment last ((is_next moment t d there).due) le) g) (moment + 2 - s.present) s f

-- ---- at the present

later : (a b : ℕ) → a ≤ b → (u : Settings) (q : QuerierRow) (role : QuerierRole) → ByRole a u q role → ByRole b u q role
later a b le u q (QuerierRole.Querier next left) f = record { robustness = f.robustness; interval = f.interval; soon = further f.soon; few = f.few } where
  further : next ≤ a + 1000 * u.query_interval → next ≤ b + 1000 * u.query_interval
  further g = omega (arith, le, g)
later a b le u q (QuerierRole.NonQuerier end) f = tt

by_later : (a b : ℕ) → a ≤ b → (s : State) → s.present ≤ b → IsBy a s → IsBy b s
by_later a b le s now f =
    record { now = now; rows = each_more (Row a s.settings) (Row b s.settings) (λ e g. later a b le s.settings e.1 (e.1).role g) s.queriers f.rows }

abbrev pub IsNow : State → Type 0
IsNow s = IsBy s.present s

module _ (s : State) where
  test_by : (present : ℕ) (u : Settings) (q : QuerierRow) (role : QuerierRole) → is_near_by present u q role ≡ true → ByRole present u q role
  test_by present u q (QuerierRole.NonQuerier end) e = tt
  test_by present u q (QuerierRole.Querier next left) e =
      let robust : q.robustness ≡ u.robustness = eqb-true _ _ (first_so (q.robustness == u.robustness) _ e) in
      let rest = second_so (q.robustness == u.robustness) _ e in
      let interval : q.query_interval ≡ u.query_interval = eqb-true _ _ (first_so (q.query_interval == u.query_interval) _ rest) in
      let ends = second_so (q.query_interval == u.query_interval) _ rest in
      record {
        robustness = robust;
        interval = interval;
        soon = subst (λ (n : ℕ). next ≤ present + 1000 * n) interval (at_most _ _ (first_so (nat_le next (present + 1000 * q.query_interval)) _ ends));
        few = subst (λ (n : ℕ). left ≤ n) robust (at_most _ _ (second_so (nat_le next (present + 1000 * q.query_interval)) _ ends));
      }

  by_test_back : (present : ℕ) (u : Settings) (q : QuerierRow) (role : QuerierRole) → ByRole present u q role → is_near_by present u q role ≡ true
  by_test_back present u q (QuerierRole.NonQuerier end) f = refl
  by_test_back present u q (QuerierRole.Querier next left) f =
      both_so (q.robustness == u.robustness) _ (eq-eqb q.robustness u.robustness f.robustness)
      (both_so (q.query_interval == u.query_interval) _ (eq-eqb q.query_interval u.query_interval f.interval)
      (both_so (nat_le next (present + 1000 * q.query_interval)) (nat_le left q.robustness)
      (le_so _ _ (subst (λ (n : ℕ). next ≤ present + 1000 * n) (sym f.interval) f.soon)) (le_so _ _ (subst (λ (n : ℕ). left ≤ n) (sym f.robustness) f.few))))

  tested : next_query_is_near s ≡ true → IsNow s
  unfolding next_query_is_near
  tested e = record {
    now = no_later s.present;
    rows = each_more (λ x. is_near_by s.present s.settings x.1 (x.1).role ≡ true) (Row s.present s.settings)
        (λ x g. test_by s.present s.settings x.1 (x.1).role g) s.queriers (each_of_list (λ (x : Key × QuerierRow). is_near_by s.present s.settings x.1 (x.1).role) s.queriers e);
  }

  passes : IsNow s → next_query_is_near s ≡ true
  unfolding next_query_is_near
  passes f =
      list_of_each (λ (x : Key × QuerierRow). is_near_by s.present s.settings x.1 (x.1).role) s.queriers
      (each_more (Row s.present s.settings) (λ x. is_near_by s.present s.settings x.1 (x.1).role ≡ true)
      (λ x g. by_test_back s.present s.settings x.1 (x.1).role g) s.queriers f.rows)

time_now : (s : State) (w moment : ℕ) → IsLawful s → s.present ≤ moment → IsNow s → IsNow (advanced s w moment).state
unfolding advanced
time_now s w moment lawful le f =
    let ended : Sound moment (fire_all w moment s).0 =
    all_sound moment w moment s (no_later moment) (record { lawful = lawful; by = by_later s.present moment le s le f }) in
    record { now = no_later moment; rows = ended.by.rows }

settled_now : (o : State) (c : State × List Message) (w : ℕ) → IsNow c.0 → IsNow (settled o c w).0
settled_now o c w f =
    subst (λ (a : Read). By a.present a) (sym (settled_asked o c w)) f

changed_now : (s : State) (w : ℕ) (a : Accepted) → IsNow s → IsNow (change s w a).state
changed_now s w a f =
    subst (λ (n : ℕ). IsBy n (change s w a).state) (sym (change_present s w a)) (changes_by s.present s w a f)

step_now : (s : State) (e : Event) → IsLawful s → IsNow s → IsNow (step s e).state
step_now s e lawful f =
    event_walks IsNow (λ o t. IsNow t) s e f (λ moment le. time_now s e.draw moment lawful le f)
    (λ a is. changed_now s e.draw a f) (λ o c w g h. settled_now o c w h)

pub next_query_stays_near : NextQueryStaysNear
next_query_stays_near s e rest near =
    passes (step s e).state (step_now s e (settled_is_lawful s rest.settled) (tested s near))

pub kept_near : (s : State) (g src m : ℕ) → next_query_is_near s ≡ true → next_query_is_near (keep s g src m) ≡ true
unfolding next_query_is_near kept_until
kept_near s g src m near = keep_by s g src m (λ t. next_query_is_near t ≡ true) near (λ end e sooner. near)

-- ---- a reload by a map of places

there_now : (s : State) (places : List ℕ) (c : Config) (apart : List ℕ) → settings_of c ≡ s.settings → IsNow s
    → IsNow (without_neighbours apart (placed_under s places c))
unfolding without_neighbours placed_under
there_now s places c apart same f = record {
  now = f.now;
  rows = each_placed places (Row s.present s.settings) (Row s.present (settings_of c))
      (λ e g. subst (λ (u : Settings). ByRole s.present u e.1 (e.1).role) (sym same) g) s.queriers f.rows;
}

moved_near : (s : State) (places : List ℕ) (c : Config) (apart : List ℕ) (w : ℕ) → settings_of c ≡ s.settings
    → next_query_is_near s ≡ true → next_query_is_near (moved s places c apart w).0 ≡ true
unfolding moved
moved_near s places c apart w same near =
    let there : State = placed_under s places c in
    passes _ (settled_now there (without_neighbours apart there, []) w (there_now s places c apart same (tested s near)))

renewed_settings : (s : State) (m : Places) (c : Config) (w : ℕ) → settings_of c ≡ (renewed s m c w).settings
unfolding settings_of config_of in_order
renewed_settings s m c w = sym (ap (λ (d : Config). settings_of d) (replaced_is_under (gone s m c w) (new s m c w) w))

pub placed_near : (s : State) (m : Places) (c : Config) (w : ℕ) → next_query_is_near (reload_by s m c w).0 ≡ true
unfolding reload_by gone_on
placed_near s m c w =
    moved_near (renewed s m c w) (order s m c w) c [] w (renewed_settings s m c w)
    (replaced_near (gone s m c w) (new s m c w) w)
