-- A row of a lost assert, and one of a Prune(S,G,rpt), end no later, unless such a message, or a better Assert, comes again.
use Rattle.std.{proofs.{Common.{Bool, List, None, Option, Some, [], ap, arith, cond, false, inl, inr, nat_le, nat_lt, not, refl, subst, sym, true, ℕ, ◌&&◌, ◌+◌, ◌<◌, ◌||◌, ◌∙◌, ◌∷◌, ◌≡◌, ◌≤◌, ◌⊎◌}, lemmas.Bool.{Decides.nat_tests, both_ways}}, specs.{List.{AllByRecursion, Sorted.IsStrictlySortedBy}, Option.option_map_or, Prelude.is_none, declared.cmp.Ordering.Ordering}}
use Rattle.pim_types.{proofs.Keys.{equal_keys, same_key_same}, specs.{Keys.{is_on, key_cmp, rpt_key, same_key, source_key, star_key}, declared.{event.Event.Event, fact.{AssertMetric.AssertMetric, AssertRole.AssertRole, AssertRow.AssertRow, DownstreamRow.DownstreamRow, Key.Key}, timer.TimerKind.TimerKind}}}
use Rattle.pim_wire.{specs.{Values.{Encapsulated, JoinPrune, Null}, declared.{assert.Assert.Assert as AssertMessage, hello.Hello.Hello as HelloValue}}}
use Rattle.pim_model.{specs.{Asserts.{assert_as_loser, assert_as_winner, assert_at, assert_due, assert_forgotten, assert_in_no_info, assert_received, data_seen, is_acceptable, is_of_tree, is_tracking_at, loses, loses_first, my_metric_at, theirs_of, winner_time, wins, wins_again, with_spt_bit, without_spt_bit}, Cause.done_as, Clearing.clear, Downstream.{asserts_after_joins, downstream_expired, keys_taken, prune_pending_due, to_me}, Firing.{fire_row, fired, keepalive_due, settled}, Forwarding.{forwarded, list_chosen, source_here, source_joined, spt_updated, stray}, Hellos.{hello_due, hello_received, hello_triggered, neighbour_due, neighbour_replaced, neighbour_restarted}, Messages.Message, Network.{Move, Network, Station, event_of, moved, station_at}, Querier.{general_query_due, group_record_due, group_repeat_due, other_querier_gone, querier_up, querying, querying_on, source_record_due, source_repeat_due, sources_sent}, Records.{with_members, with_repeats_of_rows}, Registers.{register_due, register_stop_seen, settle_registers}, Sets.{is_loser, is_winner, prunes}, State.State, Step.{advanced, change, done, iface_down, iface_up, ran, rps_replaced, state_after, step, taken}, Tables.{Table, change_row, drop_at, drop_where, keys_in, row_at}, Upstream.{join_timer_due, moved_join_timer, moved_override_timer, override_timer_due, upstream}, Writing.write_all, declared.accepted.Accepted.Accepted}}
use Rattle.law_settled.{proofs.{FineStates.Runs, ListLaws.{by_cond, each_filter}, Parts.{end_of, is_sound, part_of}, RowLaws.each_put, SettlingLaws.{kept_by_clearing, kept_by_telling}, ShownEnds.{rows_run, shown_is_later}, Steps.step_is_settled, TableLaws.row_of_each}, specs.Ready.IsSettled}
use Rattle.law_streams.{proofs.{EndSoon.no_later, LiesUnder.row_fires, Pairs.{Steps, one_router, ready_then, same_station}, Rows.changed_good, Walks.time_walks}, specs.{Copies.happens, InTimeJoins.IsReady}}
use Rattle.law_states.{proofs.{AssertEnds.{Read, here_read, joined_read, pending_read, query_read, read, register_read, report_read, seen_read, updated_read, watched_read}, Bounds.each_replaced}}
use Rattle.law_hosts.{proofs.Done.after_event}
use Rattle.law_converges.{proofs.{AssertRows.{assert_by_row, assert_of, received_by}, LinkRptWaits.kept_unpruned}, specs.{Carried.EachMove, LinkAsserts.{gives_way, loses_to}, LinkDr.Member, LinkLosers.reads_assert, LinkRpt.is_pruned_by, Past.{ArePast, HoldsPast}, Unheard.{AreNone, HearsNoBetter, HearsNoPrune, LostAssertEnds, PruneEnds, hears_better, is_gone, is_over}}}

-- ---- rows of a key

module _ {R : Type 0} (k : Key) (good : R → Bool) where
  abbrev pub Fits : Key × R → Type 0
  Fits e = (not (same_key k e.0) || good e.1) ≡ true

  none_above : (z : Key) → same_key k z ≡ true → (xs : Table R) → AllByRecursion (λ y. key_cmp z y ≡ Ordering.Less) (keys_in xs) → AllByRecursion Fits xs
  unfolding keys_in
  none_above z same [] above = tt
  none_above z same (x ∷ xs) above = (grind (arith, above.0, equal_keys, same, both_ways, same_key_same), none_above z same xs above.1)

  -- of rising keys, what the row that is found passes all rows of the key pass
  pub each_of_row : (t : Table R) → IsStrictlySortedBy key_cmp (keys_in t) → option_map_or good (row_at t k) true ≡ true → AllByRecursion Fits t
  unfolding row_at keys_in IsStrictlySortedBy
  each_of_row [] rises e = tt
  each_of_row (x ∷ xs) rises e = grind (arith, each_of_row xs rises.1, none_above)

  pub row_of_key : (t : Table R) (r : R) → AllByRecursion Fits t → row_at t k ≡ Some r → good r ≡ true
  row_of_key t r f found = own (same_key k k) (good r) (same_key_same k) (row_of_each Fits k r t f found)
    where
      own : (a b : Bool) → a ≡ true → (not a || b) ≡ true → b ≡ true
      own a b e f = grind (arith, e, f)

-- ---- what is over ends

-- something holds of a router's state
pub record HasState (Good : State → Type 0) (r : ℕ) (n : Network) : Type 0 where
  pub station : Station
  pub there : station_at n r ≡ Some station
  pub good : Good station.state

module _ (test : State → Option Accepted → Bool) (until : ℕ) (All Good : State → Type 0)
    (goes : (s : State) (e : Event) → IsSettled s → All s → test s (done_as (happens s e)) ≡ false → All (step s e).state)
    (ends : (s : State) → IsSettled s → All s → until ≤ s.present → Good s) where
  run_ends : (events : List Event) (s : State) → IsSettled s → All s → AreNone test s events → until ≤ (state_after s events).present
      → Good (state_after s events)
  unfolding state_after ran
  run_ends [] s rest f none past = ends s rest f past
  run_ends (e ∷ es) s rest f none past = run_ends es (step s e).state (step_is_settled s e rest) (goes s e rest f none.0) none.1 past

  module _ (bound : ℕ) (started : ℕ → ℕ) (r : ℕ) (by : until + started r ≤ bound) where
    after : (p : ℕ) → bound < p + started r → until ≤ p
    after p lt = omega (arith, by, lt)

    walk : (ms : List Move) (n : Network) → (ready : IsReady r n) → All (ready.station).state
        → EachMove (λ n m. (e : Event) (st : Station) → event_of n m ≡ Some (r, e) → station_at n r ≡ Some st
        → test st.state (done_as (happens st.state e)) ≡ false) n ms → HoldsPast started bound (HasState Good r) n ms
    walk [] n ready f none = tt
    walk (m ∷ ms) n ready f none = (now, walk ms (moved n m).1 next all_next none.1)
      where
        next : IsReady r (moved n m).1
        next = ready_then r n m ready

        moves : (station_at (moved n m).1 r ≡ Some ready.station) ⊎ Steps n m r ready.station → All ((next).station).state
        moves (inl same) = subst (λ (z : Station). All z.state) (same_station same (next).there) f
        moves (inr w) =
            subst (λ (z : Station). All z.state) (same_station (w.stepped).here (next).there)
            (goes (ready.station).state w.event (ready.at_rest).settled f (none.0 w.event ready.station w.is ready.there))

        all_next : All ((next).station).state
        all_next = moves (one_router n m r ready.station ready.there)

        now : ArePast started bound (moved n m).1 → HasState Good r (moved n m).1
        now past = record {
          station = (next).station;
          there = (next).there;
          good = ends ((next).station).state ((next).at_rest).settled all_next
              (after (((next).station).state).present (past r (next).station (next).there));
        }

-- ---- a lost assert

lt_of : (a b : ℕ) → nat_lt a b ≡ true → a < b
lt_of a b e = grind (arith, nat_tests, e)

le_of : (a b : ℕ) → nat_le a b ≡ true → a ≤ b
le_of a b e = grind (arith, nat_tests, e)

never : (p n bound : ℕ) → p < n → n ≤ bound → bound ≤ p → ⊥
never p n bound e f h = omega (arith, e, f, h)

module _ (k : Key) (bound : ℕ) where
  -- a winner's row, or one that ends by the bound
  abbrev over : AssertRow → Bool
  over r = not (is_loser (Some r)) || nat_le r.end bound

  abbrev Kept : Key × AssertRow → Type 0
  Kept e = Fits k over e

  abbrev All : State → Type 0
  All s = AllByRecursion Kept s.asserts

  abbrev By : Read → Type 0
  By r = AllByRecursion Kept r.asserts

  same : (s t : State) → read t ≡ read s → All s → All t
  same s t e f = subst By (sym e) f

  -- ---- single changes

  winner_fits : (j : Key) (r : AssertRow) → is_winner (Some r) ≡ true → (not (same_key k j) || over r) ≡ true
  winner_fits j r won = grind (arith, won)

  wins_all : (s : State) (j : Key) → All s → All (wins s j).0
  unfolding wins
  wins_all s j f =
      let r : AssertRow = record { role = AssertRole.Winner; winner = my_metric_at s j; end = s.present + winner_time } in
      each_put j r Kept (winner_fits j r refl) s.asserts f

  again_all : (s : State) (j : Key) (r : AssertRow) → is_winner (Some r) ≡ true → All s → All (wins_again s j r).0
  unfolding wins_again
  again_all s j r won f =
      let again : AssertRow = record r { end = s.present + winner_time } in
      each_replaced j again Kept (λ q e. winner_fits q again won) s.asserts f

  forgotten_all : (s : State) (j : Key) → All s → All (assert_forgotten s j)
  unfolding assert_forgotten drop_at drop_where
  forgotten_all s j f = each_filter Kept (λ e. not (same_key j e.0)) s.asserts f

  seen_all : (s : State) (j : Key) → All s → All (data_seen s j).0
  unfolding data_seen
  seen_all s j f = grind (arith, wins_all)

  due_all : (s : State) (j : Key) (r : AssertRow) → All s → All (assert_due s j r).0
  unfolding assert_due
  due_all s j r f = go (is_winner (Some r)) refl
    where
      go : (b : Bool) → is_winner (Some r) ≡ b → All (cond b (wins_again s j r) (assert_forgotten s j, [])).0
      go true won = again_all s j r won f
      go false lost = forgotten_all s j f

  -- ---- an Assert that another machine reads

  module _ (s : State) (j : Key) (theirs : AssertMetric) (off : same_key k j ≡ false) (f : All s) where
    loses_all : All (loses s j theirs)
    unfolding loses
    loses_all = each_put j _ Kept (rw off refl) s.asserts f

    first_all : All (loses_first s j theirs)
    unfolding loses_first with_spt_bit
    first_all = by_cond All _ _ (loses s j theirs) loses_all loses_all

    no_info_all : All (assert_in_no_info s j theirs).0
    unfolding assert_in_no_info
    no_info_all = grind (arith, wins_all, first_all)

    winner_all : (r : AssertRow) → is_winner (Some r) ≡ true → All (assert_as_winner s j r theirs).0
    unfolding assert_as_winner
    winner_all r won = grind (arith, loses_all, again_all)

    loser_all : (r : AssertRow) → All (assert_as_loser s j r theirs)
    unfolding assert_as_loser
    loser_all r = grind (arith, loses_all, forgotten_all)

    at_another : All (assert_at s j theirs).0
    unfolding assert_at
    at_another = go (row_at s.asserts j)
      where
        by_role : (r : AssertRow) (b : Bool) → is_winner (Some r) ≡ b
            → All (cond b (assert_as_winner s j r theirs) (assert_as_loser s j r theirs, [])).0
        by_role r true won = winner_all r won
        by_role r false lost = loser_all r

        go : (o : Option AssertRow) → All (elim o as (λ x. State × List Message) [
          | None ↦ assert_in_no_info s j theirs
          | Some r ↦ cond (is_winner (Some r)) (assert_as_winner s j r theirs) (assert_as_loser s j r theirs, [])
        ]).0
        go None = no_info_all
        go (Some r) = by_role r (is_winner (Some r)) refl

  -- ---- one that the machine reads itself, and doesn't lose by

  module _ (s : State) (theirs : AssertMetric) (f : All s) where
    own_no_info : (is_acceptable s k theirs && (is_of_tree k theirs && is_tracking_at s k)) ≡ false → All (assert_in_no_info s k theirs).0
    unfolding assert_in_no_info
    own_no_info worse = grind (arith, wins_all)

    own_winner : (r : AssertRow) → is_winner (Some r) ≡ true → gives_way s k r theirs ≡ false → All (assert_as_winner s k r theirs).0
    unfolding assert_as_winner
    own_winner r won worse = grind (arith, again_all)

    own_loser : (r : AssertRow) → is_winner (Some r) ≡ false → gives_way s k r theirs ≡ false → All (assert_as_loser s k r theirs)
    unfolding assert_as_loser
    own_loser r lost worse = grind (arith, forgotten_all)

    at_own : loses_to s k theirs ≡ false → All (assert_at s k theirs).0
    at_own worse =
        subst (λ (p : State × List Message). All p.0) (sym (assert_by_row s k theirs (row_at s.asserts k) refl)) (go (row_at s.asserts k) worse)
      where
        by_role : (r : AssertRow) (b : Bool) → is_winner (Some r) ≡ b → gives_way s k r theirs ≡ false
            → All (cond b (assert_as_winner s k r theirs) (assert_as_loser s k r theirs, [])).0
        by_role r true won e = own_winner r won e
        by_role r false lost e = own_loser r lost e

        go : (o : Option AssertRow) → option_map_or (λ (r : AssertRow). gives_way s k r theirs) o
            (is_acceptable s k theirs && (is_of_tree k theirs && is_tracking_at s k)) ≡ false → All (assert_of s k theirs o).0
        go None e = own_no_info e
        go (Some r) e = by_role r (is_winner (Some r)) refl e

    at_any : (j : Key) → (same_key k j ≡ true → loses_to s k theirs ≡ false) → All (assert_at s j theirs).0
    at_any j worse = go (same_key k j) refl
      where
        go : (b : Bool) → same_key k j ≡ b → All (assert_at s j theirs).0
        go false off = at_another s j theirs off f
        go true same = subst (λ (q : Key). All (assert_at s q theirs).0) (equal_keys k j same) (at_own (worse same))

  received_all : (s : State) (i from : ℕ) (a : AssertMessage) → (reads_assert k i a && loses_to s k (theirs_of a from)) ≡ false → All s
      → All (assert_received s i from a).0
  received_all s i from a off f =
      received_by (λ p. All p.0) s i from a f
      (λ some. at_any s (theirs_of a from) f (source_key i a.group.bits a.source.bits) (λ same. of_source _ _ _ _ some same off))
      (λ rpt. at_any s (theirs_of a from) f (star_key i a.group.bits) (λ same. of_group _ _ _ _ rpt same off))
    where
      of_source : (none own rest better : Bool) → none ≡ false → own ≡ true → (((not none && own) || rest) && better) ≡ false → better ≡ false
      of_source none own rest better e f g = grind arith

      of_group : (rest rpt own better : Bool) → rpt ≡ true → own ≡ true → ((rest || (rpt && own)) && better) ≡ false → better ≡ false
      of_group rest rpt own better e f g = grind arith

  -- ---- each event's own change

  chosen_all : (s : State) (g src iif : ℕ) → All s → All (list_chosen s g src iif).state
  unfolding list_chosen stray
  chosen_all s g src iif f = grind (arith, seen_all, same, watched_read)

  data_all : (s : State) (g src iif : ℕ) → All s → All (forwarded s g src iif).state
  unfolding forwarded
  data_all s g src iif f =
      let seen : State = spt_updated (source_joined (source_here s g src iif) g src iif) g src iif in
      chosen_all seen g src iif
      (same s seen (updated_read (source_joined (source_here s g src iif) g src iif) g src iif ∙ joined_read (source_here s g src iif) g src iif
      ∙ here_read s g src iif) f)

  hello_all : (s : State) (i from : ℕ) (h : HelloValue) (w : ℕ) → All s → All (hello_received s i from h w)
  unfolding hello_received hello_triggered neighbour_replaced neighbour_restarted
  hello_all s i from h w f = grind (arith, each_filter)

  to_me_all : (s : State) (i : ℕ) (m : JoinPrune) → All s → All (to_me s i m)
  unfolding to_me keys_taken asserts_after_joins
  to_me_all s i m f = each_filter Kept _ s.asserts f

  change_all : (s : State) (w : ℕ) (a : Accepted) → hears_better k s (Some a) ≡ false → All s → All (change s w a).state
  unfolding change iface_up querier_up querying rps_replaced register_stop_seen iface_down drop_where
  change_all s w (Accepted.Advance moment) off f = f
  change_all s w (Accepted.Up i) off f = f
  change_all s w (Accepted.Down i) off f = each_filter Kept (λ e. not (is_on i.number e.0)) s.asserts f
  change_all s w (Accepted.Routes routes) off f = f
  change_all s w (Accepted.Rps ranges) off f = f
  change_all s w (Accepted.Hello i from h) off f = hello_all s i.number from.bits h w f
  change_all s w (Accepted.JoinPruneToMe i m) off f = to_me_all s i.number m f
  change_all s w (Accepted.JoinPruneSeen i m) off f = subst By (sym (seen_read s w i.number m)) f
  change_all s w (Accepted.Assert i from a) off f = received_all s i.number from.bits a off f
  change_all s w (Accepted.Query i from q) off f = subst By (sym (query_read s i.number from.bits q)) f
  change_all s w (Accepted.Report i records) off f = subst By (sym (report_read s i.number records)) f
  change_all s w (Accepted.Data i p) off f = data_all s p.destination p.source i.number f
  change_all s w (Accepted.Register p (Encapsulated inner)) off f = subst By (sym (register_read s p inner.destination inner.source false)) f
  change_all s w (Accepted.Register p (Null source group)) off f = subst By (sym (register_read s p group source true)) f
  change_all s w (Accepted.RegisterStop from r) off f = f

  -- ---- what follows, and time

  settled_all : (o : State) (c : State × List Message) (w : ℕ) → All c.0 → All (settled o c w).0
  unfolding settled write_all settle_registers without_spt_bit moved_join_timer moved_override_timer
  settled_all o c w f =
      let after : State = (clear o c.0).0 in
      let clears : All after = kept_by_clearing All forgotten_all (λ s j e. e) o c.0 f in
      same after (upstream o after w).0
      (kept_by_telling (λ n. Unit {0}) after w (λ d some. tt) (λ t. read t ≡ read after) (λ s j d fair e. e) (λ s j d fair e. e) o refl) clears

  fired_all : (s : State) (kind : TimerKind) (j : Key) → All s → All (fired s kind j).0
  unfolding fired fire_row downstream_expired neighbour_due keepalive_due override_timer_due join_timer_due
      other_querier_gone querying_on general_query_due hello_due register_due group_repeat_due source_repeat_due sources_sent
      group_record_due source_record_due with_members with_repeats_of_rows
  fired_all s TimerKind.PrunePending j f = row_fires All s (prune_pending_due s j) (row_at s.downstream j) f (λ r. same s (prune_pending_due s j r).0 (pending_read s j r) f)
  fired_all s TimerKind.Assert j f = row_fires All s (assert_due s j) (row_at s.asserts j) f (λ r. due_all s j r f)
  fired_all s TimerKind.Keepalive j f = grind (arith, row_fires)
  fired_all s TimerKind.Register j f = grind (arith, row_fires)
  fired_all s TimerKind.GroupRepeat j f = grind (arith, row_fires)
  fired_all s TimerKind.GeneralQuery j f = grind (arith, row_fires)
  fired_all s TimerKind.Hello j f = grind (arith, row_fires)
  fired_all s kind j f = f

  time_all : (s : State) (w m : ℕ) → All s → All (advanced s w m).state
  time_all s w m f =
      time_walks All (λ o t. All t) m (λ t x le h. h) (λ t x kind j le h. fired_all (record t { present = x }) kind j h)
      (λ o c x h u. settled_all o c x u) s w m (no_later m) f

  -- ---- any event

  takes : (s : State) (e : Event) → All s → (a : Accepted) → done_as (happens s e) ≡ Some a → hears_better k s (Some a) ≡ false
      → All (taken s e.draw a).state
  unfolding taken done
  takes s e f (Accepted.Advance m) was off = time_all s e.draw m f
  takes s e f a was off = settled_all s ((change s e.draw a).state, (change s e.draw a).messages) e.draw (change_all s e.draw a off f)

  pub event_all : (s : State) (e : Event) → All s → hears_better k s (done_as (happens s e)) ≡ false → All (step s e).state
  event_all s e f off = after_event (λ o t. hears_better k s o ≡ false → All t) s e (λ none. f) (takes s e f) off

  -- ---- in the end

  none_lost : (s : State) → IsSettled s → All s → bound ≤ s.present → is_loser (row_at s.asserts k) ≡ false
  none_lost s rest f past = go (row_at s.asserts k) refl
    where
      runs : AllByRecursion (λ (e : Key × AssertRow). Runs (nat_lt s.present) (Some (e.1).end)) s.asserts
      runs =
          rows_run (end_of TimerKind.Assert) (is_sound (part_of TimerKind.Assert)) s.present s.asserts
          (λ j n e. shown_is_later s.present s (rest.ahead).ends TimerKind.Assert j n e)

      by_end : (r : AssertRow) → nat_lt s.present r.end ≡ true → over r ≡ true → is_loser (Some r) ≡ false
      by_end r runs is = lost (is_loser (Some r)) (nat_le r.end bound) refl is
        where
          lost : (a b : Bool) → nat_le r.end bound ≡ b → (not a || b) ≡ true → a ≡ false
          lost false b e is = refl
          lost true true e is = absurd (never s.present r.end bound (lt_of s.present r.end runs) (le_of r.end bound e) past)
          lost true false e is = cc is

      go : (o : Option AssertRow) → row_at s.asserts k ≡ o → is_loser o ≡ false
      go None none = refl
      go (Some r) found =
          by_end r (row_of_each (λ (e : Key × AssertRow). Runs (nat_lt s.present) (Some (e.1).end)) k r s.asserts runs found)
          (row_of_key k over s.asserts r f found)

pub lost_assert_ends : LostAssertEnds
lost_assert_ends s events k bound rest f none past =
    run_ends (hears_better k) bound (All k bound) (λ t. is_loser (row_at t.asserts k) ≡ false) (λ t e r h off. event_all k bound t e h off)
    (none_lost k bound) events s rest (each_of_row k (over k bound) s.asserts (rest.ordered).asserts f) none past

-- a router that hears no better Assert has lost none, from the bound on
pub none_lost_past : (k : Key) (bound : ℕ) (started : ℕ → ℕ) (r : ℕ) (n : Network) (ms : List Move) → IsReady r n → HearsNoBetter k bound started r n ms
    → HoldsPast started bound (HasState (λ s. is_loser (row_at s.asserts k) ≡ false) r) n ms
none_lost_past k bound started r n ms ready f =
    walk (hears_better k) f.until (All k f.until) (λ t. is_loser (row_at t.asserts k) ≡ false) (λ t e rest h off. event_all k f.until t e h off)
    (none_lost k f.until) bound started r f.by ms n ready
    (each_of_row k (over k f.until) ((ready.station).state).asserts (((ready.at_rest).settled).ordered).asserts
    (subst (λ (z : Station). is_over f.until (row_at (z.state).asserts k) ≡ true) (same_station f.there ready.there) f.over)) f.none

-- ---- a Prune

module _ (i g src bound : ℕ) where
  abbrev its : Key
  its = rpt_key i g src

  abbrev Gone : State → Type 0
  Gone s = is_gone bound (row_at s.downstream its) ≡ true

  -- the end of the Prune-Pending Timer leaves when the Prune expires
  due_gone : (t : State) (r : DownstreamRow) → row_at t.downstream its ≡ Some r → Gone t → Gone (prune_pending_due t its r).0
  unfolding prune_pending_due
  due_gone t r found f =
      shown (is_gone bound (row_at (change_row (λ (old : DownstreamRow). Some (record r { pending = None })) its t.downstream) its))
      (changed_good (λ o. not (is_gone bound o)) refl (λ (old : DownstreamRow). Some (record r { pending = None })) new its its t.downstream
      (hidden (is_gone bound (row_at t.downstream its)) f))
    where
      shown : (b : Bool) → not b ≡ false → b ≡ true
      shown true e = refl
      shown false e = cc e

      hidden : (b : Bool) → b ≡ true → not b ≡ false
      hidden true e = refl
      hidden false e = cc e

      same_row : (p q : DownstreamRow) → Some p ≡ Some q → p ≡ q
      same_row p q e = cc e

      new : (old q : DownstreamRow) → Some (record r { pending = None }) ≡ Some q → not (is_gone bound (Some q)) ≡ false
      new old q e =
          subst (λ (y : DownstreamRow). not (is_gone bound (Some y)) ≡ false) (same_row (record r { pending = None }) q e)
          (hidden (is_gone bound (Some r)) (ap (is_gone bound) (sym found) ∙ f))

  goes_gone : (s : State) (e : Event) → IsSettled s → Gone s → is_pruned_by i g src (done_as (happens s e)) ≡ false → Gone (step s e).state
  goes_gone s e rest f off = kept_unpruned i g src (λ o. is_gone bound o ≡ true) refl s e rest f due_gone off

  none_pruned : (s : State) → IsSettled s → Gone s → bound ≤ s.present → prunes s g src i ≡ false
  unfolding prunes
  none_pruned s rest f past = go (row_at s.downstream its) refl f
    where
      runs : AllByRecursion (λ (e : Key × DownstreamRow). Runs (nat_lt s.present) (e.1).expiry) s.downstream
      runs =
          rows_run (end_of TimerKind.DownstreamExpiry) (is_sound (part_of TimerKind.DownstreamExpiry)) s.present s.downstream
          (λ j n e. shown_is_later s.present s (rest.ahead).ends TimerKind.DownstreamExpiry j n e)

      gone : (o : Option ℕ) → Runs (nat_lt s.present) o → option_map_or (λ end. nat_le end bound) o false ≡ true → ⊥
      gone None run e = cc e
      gone (Some end) run e = never s.present end bound (lt_of s.present end run) (le_of end bound e) past

      go : (o : Option DownstreamRow) → row_at s.downstream its ≡ o → is_gone bound o ≡ true
          → option_map_or (λ (r : DownstreamRow). is_none r.pending) (row_at s.downstream its) false ≡ false
      go None none is = ap (λ (o : Option DownstreamRow). option_map_or (λ (r : DownstreamRow). is_none r.pending) o false) none
      go (Some r) found is =
          absurd (gone r.expiry (row_of_each (λ (e : Key × DownstreamRow). Runs (nat_lt s.present) (e.1).expiry) its r s.downstream runs found) is)

pub prune_ends : PruneEnds
prune_ends s events i g src bound rest f none past =
    run_ends (λ u. is_pruned_by i g src) bound (Gone i g src bound) (λ t. prunes t g src i ≡ false) (goes_gone i g src bound) (none_pruned i g src bound)
    events s rest f none past

-- a router at which nobody prunes a source doesn't have it pruned, from the bound on
pub none_pruned_past : (g src bound : ℕ) (started : ℕ → ℕ) (y : Member) (n : Network) (ms : List Move) → IsReady y.router n
    → HearsNoPrune g src bound started y n ms → HoldsPast started bound (HasState (λ s. prunes s g src y.iface ≡ false) y.router) n ms
none_pruned_past g src bound started y n ms ready f =
    walk (λ u. is_pruned_by y.iface g src) f.until (Gone y.iface g src f.until) (λ t. prunes t g src y.iface ≡ false) (goes_gone y.iface g src f.until)
    (none_pruned y.iface g src f.until) bound started y.router f.by ms n ready
    (subst (λ (z : Station). is_gone f.until (row_at (z.state).downstream (rpt_key y.iface g src)) ≡ true) (same_station f.there ready.there) f.over)
    f.none
