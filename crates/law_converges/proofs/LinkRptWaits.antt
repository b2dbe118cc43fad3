-- A Prune(S,G,rpt) that waits goes on to wait, and NoInfo stays, whatever else happens.
use Rattle.std.{proofs.{Common.{◌≡◌, ◌∙◌, ℕ, ◌+◌, ◌-◌, ◌≤◌, ◌&&◌, nat_le, suc, zero, Bool, true, false, List, [], fold, length, inl, inr, Option, Some, None, Ok, refl, sym, ap, subst, arith}, lemmas.{Bool.{Decides.nat_tests}, Grind.common_steps}}, specs.Option.option_map_or}
use Rattle.pim_types.{specs.{Keys.{is_on, rpt_key, same_key, star_key}, declared.{config.IfaceId.IfaceId, event.Event.Event, fact.{DownstreamRow.DownstreamRow, Key.Key}, timer.TimerKind.TimerKind}}, proofs.Keys.equal_keys}
use Rattle.pim_wire.{specs.Values.JoinPrune}
use Rattle.pim_model.{specs.{declared.accepted.Accepted.Accepted, Cause.{done_as, if_done}, Downstream.{downstream_expired, holdtime_end, is_named, joined_keys, keys_taken, prune_pending_due, pruned_keys, row_after, to_me, touched_keys}, Firing.{fire_all, fire_instant, fire_once, fire_row, fired, keepalive_due, settled}, Hellos.{hello_due, neighbour_due}, Judging.{Judged, judged}, Messages.Message, Querier.{general_query_due, group_record_due, group_repeat_due, other_querier_gone, querying_on, source_record_due, source_repeat_due, sources_sent}, Records.{with_members, with_repeats_of_rows}, State.State, Step.{Answered, advanced, change, concluded, done, iface_down, step, taken, taken_unless_full}, Tables.{Table, drop_at, drop_where, has_row, later_end, row_at, same_option, set_row}, Timers.{Ending, next_due, timers}, Upstream.{join_timer_due, override_timer_due}}}
use Rattle.law_settled.{proofs.{Ends.{Ends, shows}, LawfulFiring.one_firing_is_lawful, ListLaws.by_cond, RowLaws.{has_row_dropped, row_change_away, row_drop_away, row_kept, row_put_away}, SettledStates.settled_is_lawful, TimerLaws.{is_next}, TurnLaws.{kept_by_fold, kept_to_the_end}, UnchangedLaws.{full_or_taken, taken_done}}, specs.Ready.{IsLawful, IsSettled}}
use Rattle.law_events.{proofs.JoinPrunes.{none_there, set_here}}
use Rattle.law_streams.{specs.{Copies.happens, Joins.is_time}, proofs.{Changes.same_rows, Lasts.only_row, Leaves.taken_is_done, Made.step_taken, Same.{Rows, assert_due_same, register_due_same, settled_same}, Taken.apart_keys}}
use Rattle.law_converges.{specs.LinkRpt.{PruneWaitsOn, UnprunedStays, WaitsIn, WaitsOrIsGone, is_pruned_by, may_take_effect}}

-- ---- an event that isn't done changes nothing

none_full : (s : State) (w : ℕ) (a : Accepted) (b : Bool) → if_done (full_or_taken s w a b).answer (Ok a) ≡ None
    → (full_or_taken s w a b).state ≡ s
none_full s w a b e = grind (arith, taken_done)

none_concluded : (s : State) (w : ℕ) (j : Judged) → if_done (concluded s (taken_unless_full s w) j).answer j ≡ None
    → (concluded s (taken_unless_full s w) j).state ≡ s
unfolding taken_unless_full
none_concluded s w j e = grind (arith, none_full)

pub not_done : (s : State) (e : Event) → done_as (happens s e) ≡ None → (step s e).state ≡ s
unfolding step done_as
not_done s e is = none_concluded s e.draw (judged s e.kind) is

-- ---- what is said of the row of a key, and of none

module _ (key : Key) (Q : Option DownstreamRow → Type 0) (none : Q None) where
  abbrev There : State → Type 0
  There t = Q (row_at t.downstream key)

  by_rows : (s t : State) → t.downstream ≡ s.downstream → There s → There t
  by_rows s t e f = subst (λ (d : Table DownstreamRow). Q (row_at d key)) (sym e) f

  set_away : (q : Key) → same_key key q ≡ false → (t : Table DownstreamRow) (o : Option DownstreamRow)
      → row_at (set_row t q o) key ≡ row_at t key
  unfolding set_row
  set_away q off t o = grind (arith, row_drop_away, apart_keys, row_put_away)

  set_so : (q : Key) (t : Table DownstreamRow) (o : Option DownstreamRow) → (same_key key q ≡ true → Q o) → Q (row_at t key)
      → Q (row_at (set_row t q o) key)
  set_so q t o new f = go (same_key key q) refl
    where
      go : (b : Bool) → same_key key q ≡ b → Q (row_at (set_row t q o) key)
      go true same = subst (λ (y : Key). Q (row_at (set_row t q o) y)) (sym (equal_keys key q same)) (subst Q (sym (set_here q t o)) (new same))
      go false off = subst Q (sym (set_away q off t o)) f

  dropped_so : (q : Key) (t : Table DownstreamRow) → Q (row_at t key) → Q (row_at (drop_at t q) key)
  unfolding set_row
  dropped_so q t f = set_so q t None (λ same. none) f

  all_set : (rule : Key → Option DownstreamRow) → Q (rule key) → (ks : List Key) (t : Table DownstreamRow) → Q (row_at t key)
      → Q (row_at (fold (λ u q. set_row u q (rule q)) t ks) key)
  all_set rule good ks t f =
      kept_by_fold (λ u q. set_row u q (rule q)) (λ u. Q (row_at u key))
      (λ u q h. set_so q u (rule q) (λ same. subst (λ (y : Key). Q (rule y)) (equal_keys key q same) good) h) ks t f

  down_so : (s : State) (j : ℕ) → There s → There (iface_down s j)
  unfolding iface_down has_row
  down_so s j f = go (is_on j key) refl
    where
      go : (b : Bool) → is_on j key ≡ b → Q (row_at (drop_where (is_on j) s.downstream) key)
      go true on =
          subst Q (sym (none_there (row_at (drop_where (is_on j) s.downstream) key) (has_row_dropped key (is_on j) s.downstream ∙ rw on refl))) none
      go false off = subst Q (sym (row_kept (is_on j) key off s.downstream)) f

  -- ---- a timer ends

  row_same : {R : Type 0} (s : State) (o : Option R) (fire : R → State × List Message)
      → ((r : R) → (fire r).0.downstream ≡ s.downstream) → (option_map_or fire o (s, [])).0.downstream ≡ s.downstream
  row_same s o fire f = grind arith

  abbrev is_other : TimerKind → Bool
  is_other TimerKind.PrunePending = false
  is_other TimerKind.DownstreamExpiry = false
  is_other kind = true

  others_same : (s : State) (kind : TimerKind) (q : Key) → is_other kind ≡ true → (fired s kind q).0.downstream ≡ s.downstream
  unfolding fired fire_row neighbour_due keepalive_due override_timer_due join_timer_due other_querier_gone querying_on
      group_repeat_due source_repeat_due sources_sent general_query_due hello_due group_record_due source_record_due with_members
      with_repeats_of_rows
  others_same s kind q e = grind (arith, row_same, assert_due_same, register_due_same)

  pending_away : (s : State) (q : Key) (r : DownstreamRow) → same_key key q ≡ false → There s → There (prune_pending_due s q r).0
  unfolding prune_pending_due
  pending_away s q r off f =
      by_cond (λ (p : State × List Message). There p.0) q.rpt _ _
      (subst Q (sym (row_change_away q key (apart_keys q key off) _ s.downstream)) f)
      (subst Q (sym (row_drop_away q key (apart_keys q key off) s.downstream)) f)

  -- what the end of its own Prune-Pending Timer leaves
  abbrev WhenDue : State → Key → Type 0
  WhenDue s q = same_key key q ≡ true → (r : DownstreamRow) → row_at s.downstream q ≡ Some r → There (prune_pending_due s q r).0

  pending_so : (s : State) (q : Key) → WhenDue s q → There s → There (option_map_or (prune_pending_due s q) (row_at s.downstream q) (s, [])).0
  pending_so s q due f = go (row_at s.downstream q) refl
    where
      some : (r : DownstreamRow) → row_at s.downstream q ≡ Some r → (b : Bool) → same_key key q ≡ b → There (prune_pending_due s q r).0
      some r is true same = due same r is
      some r is false off = pending_away s q r off f

      go : (o : Option DownstreamRow) → row_at s.downstream q ≡ o → There (option_map_or (prune_pending_due s q) o (s, [])).0
      go None is = f
      go (Some r) is = some r is (same_key key q) refl

  fired_so : (s : State) (kind : TimerKind) (q : Key) → (kind ≡ TimerKind.PrunePending → WhenDue s q) → There s → There (fired s kind q).0
  unfolding fired fire_row downstream_expired
  fired_so s TimerKind.PrunePending q due f = pending_so s q (due refl) f
  fired_so s TimerKind.DownstreamExpiry q due f = dropped_so q s.downstream f
  fired_so s kind q due f = by_rows s (fired s kind q).0 (others_same s kind q refl) f

  -- ---- time that goes on to a moment

  module _ (m : ℕ)
      (due : (t : State) (n : ℕ) → IsLawful t → There t → n ≤ m → shows TimerKind.PrunePending (Ends key n) t ≡ true
      → (r : DownstreamRow) → row_at t.downstream key ≡ Some r → There (prune_pending_due (record t { present = n }) key r).0) (w : ℕ) where
    record Kept (t : State) : Type 0 where
      there : There t
      lawful : IsLawful t

    once_so : (t : State) (d : Ending) → Kept t → d.end ≤ m → shows d.timer.kind (Ends d.timer.key d.end) t ≡ true → Kept (fire_once w t d).0
    unfolding fire_once
    once_so t d f low shown =
        let opened : State = record t { present = d.end } in
        record {
          there = by_rows (fired opened d.timer.kind d.timer.key).0 (settled t (fired opened d.timer.kind d.timer.key) w).0
              (ap (λ (r : Rows). r.downstream) (settled_same t (fired opened d.timer.kind d.timer.key) w))
              (fired_so opened d.timer.kind d.timer.key when f.there);
          lawful = one_firing_is_lawful w t d f.lawful;
        }
      where
        when : d.timer.kind ≡ TimerKind.PrunePending → WhenDue (record t { present = d.end }) d.timer.key
        when is same r found =
            let alike : key ≡ d.timer.key = equal_keys key d.timer.key same in
            subst (λ (q : Key). There (prune_pending_due (record t { present = d.end }) q r).0) alike
            (due t d.end f.lawful f.there low
            (subst (λ (q : Key). shows TimerKind.PrunePending (Ends q d.end) t ≡ true) (sym alike)
            (subst (λ (kind : TimerKind). shows kind (Ends d.timer.key d.end) t ≡ true) is shown)) r
            (subst (λ (q : Key). row_at t.downstream q ≡ Some r) (sym alike) found))

    low_too : (a b : ℕ) → a ≤ b → b ≤ m → a ≤ m
    low_too a b e f = omega (arith, e, f)

    instant_so : (t : State) (e : Ending) → Kept t → e.end ≤ m → Kept (fire_instant w t e).0
    unfolding fire_instant
    instant_so t e f low =
        kept_to_the_end (next_due e.end) (fire_once w) Kept
        (λ u d h there. once_so u d h (low_too d.end e.end (is_next e.end u d there).due low) (is_next e.end u d there).shown)
        (length (timers t) + 1) t f

    time_so : (t : State) → Kept t → There (advanced t w m).state
    unfolding advanced fire_all
    time_so t f =
        (kept_to_the_end (next_due m) (fire_instant w) Kept
        (λ u d h there. instant_so u d h (is_next m u d there).due) (m + 2 - t.present) t f).there

  -- ---- any event

  module _ (s : State) (e : Event) (rests : IsSettled s) (f : There s) where
    abbrev DueBy : ℕ → Type 0
    DueBy m = (t : State) (n : ℕ) → IsLawful t → There t → n ≤ m → shows TimerKind.PrunePending (Ends key n) t ≡ true
        → (r : DownstreamRow) → row_at t.downstream key ≡ Some r → There (prune_pending_due (record t { present = n }) key r).0

    by_change : (a : Accepted) → done_as (happens s e) ≡ Some a → is_time a ≡ false → There (change s e.draw a).state → There (step s e).state
    unfolding done
    by_change a is timeless h =
        by_rows (change s e.draw a).state (step s e).state
        (ap (λ (y : Answered). y.state.downstream) (step_taken s e a is ∙ taken_is_done s e.draw a timeless)
        ∙ ap (λ (r : Rows). r.downstream) (settled_same s ((change s e.draw a).state, (change s e.draw a).messages) e.draw)) h

    by_time : (m : ℕ) → done_as (happens s e) ≡ Some (Accepted.Advance m) → DueBy m → There (step s e).state
    unfolding taken
    by_time m is due =
        by_rows (advanced s e.draw m).state (step s e).state
        (ap (λ (y : Answered). y.state.downstream) (step_taken s e (Accepted.Advance m) is))
        (time_so m due e.draw s (record { there = f; lawful = settled_is_lawful s rests }))

    event_so : (o : Option Accepted) → done_as (happens s e) ≡ o
        → ((m : ℕ) → o ≡ Some (Accepted.Advance m) → DueBy m)
        → ((j : IfaceId) (m : JoinPrune) → o ≡ Some (Accepted.JoinPruneToMe j m) → There (to_me s j.number m)) → There (step s e).state
    unfolding change
    event_so None is due taken = subst There (sym (not_done s e is)) f
    event_so (Some (Accepted.Advance m)) is due taken = by_time m is (due m refl)
    event_so (Some (Accepted.Down j)) is due taken = by_change (Accepted.Down j) is refl (down_so s j.number f)
    event_so (Some (Accepted.JoinPruneToMe j m)) is due taken = by_change (Accepted.JoinPruneToMe j m) is refl (taken j m refl)
    event_so (Some a) is due taken = by_change a is refl (by_rows s (change s e.draw a).state (same_rows s e.draw a tt) f)

-- ---- Prune-Pending

module _ (s : State) (i g src end : ℕ) where
  abbrev k : Key
  k = rpt_key i g src

  abbrev Waits : Option DownstreamRow → Type 0
  Waits o = WaitsOrIsGone end o

  ends_at : (o : Option ℕ) (n : ℕ) → same_option o (Some n) ≡ true → o ≡ Some n
  ends_at None n e = cc e
  ends_at (Some a) n e = ap Some (grind (arith, common_steps, e))

  too_soon : (a b m : ℕ) → Some a ≡ Some b → nat_le a m ≡ false → b ≤ m → ⊥
  too_soon a b m e off low = grind (arith, nat_tests)

  early_so : (m : ℕ) → nat_le end m ≡ false → (t : State) (n : ℕ) → IsLawful t → Waits (row_at t.downstream k) → n ≤ m
      → shows TimerKind.PrunePending (Ends k n) t ≡ true → (r : DownstreamRow) → row_at t.downstream k ≡ Some r → ⊥
  early_so m off t n lawful (inl gone) low shown r found = cc (sym gone ∙ found)
  early_so m off t n lawful (inr f) low shown r found =
      too_soon end n m (sym f.pending ∙ ends_at (f.row).pending n due) off low
    where
      due : same_option (f.row).pending (Some n) ≡ true
      due =
          only_row k (λ y. same_option (y.1).pending (Some n)) f.row t.downstream (lawful.ordered).downstream f.found shown
          (λ y is at passes. subst (λ (q : DownstreamRow). same_option q.pending (Some n) ≡ true) is passes)

  module _ (j : ℕ) (m : JoinPrune) (off : (is_named (joined_keys s j m) k && is_named (pruned_keys j m) k) ≡ false)
      (f : WaitsIn end (row_at s.downstream k)) where
    abbrev rule : Key → Option DownstreamRow
    rule q = row_after s j m.holdtime (joined_keys s j m) (pruned_keys j m) q

    rule_waits : (a b c : Bool) → is_named (joined_keys s j m) k ≡ a → is_named (pruned_keys j m) k ≡ b
        → is_named (joined_keys s j m) (star_key j g) ≡ c → (h : ℕ) → m.holdtime ≡ h → (a && b) ≡ false → Waits (rule k)
    unfolding row_after
    rule_waits true true c ea eb ec h eh e = cc e
    rule_waits true false true ea eb ec h eh e = rw (ea, eb, ec) (inl refl)
    rule_waits true false false ea eb ec h eh e = rw (ea, eb, ec) (inl refl)
    rule_waits false true c ea eb ec zero eh e =
        rw (ea, eb, f.found, eh)
        (inr (record { row = record f.row { expiry = later_end (f.row).expiry (holdtime_end s zero) }; found = refl; pending = f.pending }))
    rule_waits false true c ea eb ec (suc h) eh e =
        rw (ea, eb, f.found, eh)
        (inr (record { row = record f.row { expiry = later_end (f.row).expiry (holdtime_end s (suc h)) }; found = refl; pending = f.pending }))
    rule_waits false false true ea eb ec h eh e = rw (ea, eb, ec) (inl refl)
    rule_waits false false false ea eb ec h eh e = rw (ea, eb, ec, f.found) (inr (record { row = f.row; found = refl; pending = f.pending }))

    to_me_waits : Waits (row_at (to_me s j m).downstream k)
    unfolding to_me keys_taken
    to_me_waits =
        all_set k Waits (inl refl) rule
        (rule_waits (is_named (joined_keys s j m) k) (is_named (pruned_keys j m) k) (is_named (joined_keys s j m) (star_key j g)) refl refl refl
        m.holdtime refl off)
        (touched_keys s j (joined_keys s j m) (pruned_keys j m)) s.downstream (inr f)

  waits_on : (e : Event) → IsSettled s → WaitsIn end (row_at s.downstream k)
      → may_take_effect i g src end s (done_as (happens s e)) ≡ false → Waits (row_at (step s e).state.downstream k)
  waits_on e rests f off =
      event_so k Waits (inl refl) s e rests (inr f) (done_as (happens s e)) refl
      (λ m is t n lawful there low shown r found.
      absurd (early_so m (subst (λ (o : Option Accepted). may_take_effect i g src end s o ≡ false) is off) t n lawful there low shown r found))
      (λ j m is. to_me_waits j.number m (subst (λ (o : Option Accepted). may_take_effect i g src end s o ≡ false) is off) f)

pub prune_waits_on : PruneWaitsOn
prune_waits_on s e i g src end rests f off = waits_on s i g src end e rests f off

-- ---- what a message that doesn't prune the source leaves

module _ (i g src : ℕ) (Q : Option DownstreamRow → Type 0) (none : Q None) where
  abbrev its : Key
  its = rpt_key i g src

  module _ (s : State) (f : Q (row_at s.downstream (rpt_key i g src))) (j : ℕ) (m : JoinPrune)
      (off : is_named (pruned_keys j m) (rpt_key i g src) ≡ false) where
    rule_kept : (a c : Bool) → is_named (joined_keys s j m) (rpt_key i g src) ≡ a → is_named (joined_keys s j m) (star_key j g) ≡ c
        → Q (row_after s j m.holdtime (joined_keys s j m) (pruned_keys j m) (rpt_key i g src))
    unfolding row_after
    rule_kept true true ea ec = rw (ea, off, ec) none
    rule_kept true false ea ec = rw (ea, off, ec) none
    rule_kept false true ea ec = rw (ea, off, ec) none
    rule_kept false false ea ec = rw (ea, off, ec) f

    to_me_kept : Q (row_at (to_me s j m).downstream (rpt_key i g src))
    unfolding to_me keys_taken
    to_me_kept =
        all_set its Q none (λ q. row_after s j m.holdtime (joined_keys s j m) (pruned_keys j m) q)
        (rule_kept (is_named (joined_keys s j m) its) (is_named (joined_keys s j m) (star_key j g)) refl refl)
        (touched_keys s j (joined_keys s j m) (pruned_keys j m)) s.downstream f

  pub kept_unpruned : (s : State) (e : Event) → IsSettled s → Q (row_at s.downstream its)
      → ((t : State) (r : DownstreamRow) → row_at t.downstream its ≡ Some r → Q (row_at t.downstream its)
      → Q (row_at (prune_pending_due t its r).0.downstream its)) → is_pruned_by i g src (done_as (happens s e)) ≡ false
      → Q (row_at (step s e).state.downstream its)
  kept_unpruned s e rests f due off =
      event_so its Q none s e rests f (done_as (happens s e)) refl
      (λ m is t n lawful there low shown r found. due (record t { present = n }) r found there)
      (λ j m is. to_me_kept s f j.number m (subst (λ (o : Option Accepted). is_pruned_by i g src o ≡ false) is off))

pub unpruned_stays : UnprunedStays
unpruned_stays s e i g src rests gone off =
    kept_unpruned i g src (λ o. o ≡ None) refl s e rests gone (λ t r found none. absurd (there_is_none (row_at t.downstream (rpt_key i g src)) r found none)) off
  where
    there_is_none : (o : Option DownstreamRow) (r : DownstreamRow) → o ≡ Some r → o ≡ None → ⊥
    there_is_none o r e f = cc (sym f ∙ e)
