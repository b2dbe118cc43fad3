-- A Join that was taken is held until its end.
use Rattle.std.{proofs.{Common.{◌≡◌, ◌∙◌, ℕ, ◌+◌, ◌-◌, ◌<◌, ◌≤◌, ◌&&◌, Bool, true, false, List, [], ◌∷◌, length, Option, Some, None, refl, sym, ap, subst, arith}, lemmas.{Bool.both_ways, Grind.common_steps}}, specs.{List.{AllByRecursion, list_any, Sorted.IsStrictlySortedBy}, Option.option_map_or, declared.cmp.Ordering.Ordering}}
use Rattle.pim_types.{specs.{Keys.{key_cmp, same_key}, declared.{fact.{DownstreamRow.DownstreamRow, Key.Key}, timer.TimerKind.TimerKind}}, proofs.Keys.{equal_keys, same_key_same}}
use Rattle.pim_model.{specs.{Downstream.{downstream_expired, prune_pending_due}, Firing.{fire_all, fire_instant, fire_once, fire_row, fired, keepalive_due}, Hellos.{hello_due, neighbour_due}, Messages.Message, Querier.{general_query_due, group_record_due, group_repeat_due, other_querier_gone, querying_on, source_record_due, source_repeat_due, sources_sent}, Records.{with_members, with_repeats_of_rows}, State.State, Step.advanced, Tables.{Table, keys_in, row_at, same_option}, Timers.{Ending, next_due, timers}, Upstream.{join_timer_due, override_timer_due}}}
use Rattle.law_settled.{proofs.{Ends.{Ends, shows}, ListLaws.by_cond, RowLaws.{row_change_away, row_drop_away}, TimerLaws.{IsNext, is_next}, TurnLaws.kept_to_the_end, LawfulFiring.one_firing_is_lawful}, specs.Ready.IsLawful}
use Rattle.law_streams.{proofs.{Same.{Rows, assert_due_same, register_due_same, settled_same}, Taken.apart_keys}}

-- ---- the only row of a key

module _ {R : Type 0} (k : Key) (q : Key × R → Bool) where
  none_later : (z : Key) → same_key k z ≡ true → (xs : Table R) → AllByRecursion (λ y. key_cmp z y ≡ Ordering.Less) (keys_in xs)
      → list_any (λ e. same_key k e.0 && q e) xs ≡ true → ⊥
  unfolding keys_in
  none_later z same [] above e = cc e
  none_later z same (x ∷ xs) above e = grind (arith, none_later z same xs above.1, equal_keys, both_ways, same_key_same)

  -- of rising keys, what an entry under the key passes the row that is found passes
  pub only_row : (r : R) (t : Table R) → IsStrictlySortedBy key_cmp (keys_in t) → row_at t k ≡ Some r
      → list_any (λ e. same_key k e.0 && q e) t ≡ true → ((x : Key × R) → x.1 ≡ r → same_key k x.0 ≡ true → q x ≡ true → q (k, r) ≡ true)
      → q (k, r) ≡ true
  unfolding row_at keys_in IsStrictlySortedBy
  only_row r [] rises e any moves = cc any
  only_row r (x ∷ xs) rises e any moves = grind (arith, only_row r xs rises.1, none_later)

-- ---- a timer that fires is none of the row's

module _ (key : Key) (row : DownstreamRow) (m : ℕ) (unpruned : row.pending ≡ None) (beyond : (end : ℕ) → row.expiry ≡ Some end → m < end) where
  pub record Kept (t : State) : Type 0 where
    pub there : row_at t.downstream key ≡ Some row
    pub lawful : IsLawful t

  ends_at : (o : Option ℕ) (n : ℕ) → same_option o (Some n) ≡ true → o ≡ Some n
  ends_at None n e = cc e
  ends_at (Some a) n e = ap Some (grind (arith, common_steps, e))

  isnt_pending : (t : State) → Kept t → (k : Key) (n : ℕ) → shows TimerKind.PrunePending (Ends k n) t ≡ true
      → same_key key k ≡ true → ⊥
  isnt_pending t f k n shown same =
      let here : shows TimerKind.PrunePending (Ends key n) t ≡ true =
      subst (λ (x : Key). shows TimerKind.PrunePending (Ends x n) t ≡ true) (sym (equal_keys key k same)) shown in
      let found : same_option row.pending (Some n) ≡ true =
      only_row key (λ e. same_option (e.1).pending (Some n)) row t.downstream ((f.lawful).ordered).downstream f.there here
      (λ x is at passes. subst (λ (r : DownstreamRow). same_option r.pending (Some n) ≡ true) is passes) in
      cc (sym unpruned ∙ ends_at row.pending n found)

  isnt_expiring : (t : State) → Kept t → (k : Key) (n : ℕ) → n ≤ m → shows TimerKind.DownstreamExpiry (Ends k n) t ≡ true
      → same_key key k ≡ true → ⊥
  isnt_expiring t f k n low shown same =
      let here : shows TimerKind.DownstreamExpiry (Ends key n) t ≡ true =
      subst (λ (x : Key). shows TimerKind.DownstreamExpiry (Ends x n) t ≡ true) (sym (equal_keys key k same)) shown in
      let found : same_option row.expiry (Some n) ≡ true =
      only_row key (λ e. same_option (e.1).expiry (Some n)) row t.downstream ((f.lawful).ordered).downstream f.there here
      (λ x is at passes. subst (λ (r : DownstreamRow). same_option r.expiry (Some n) ≡ true) is passes) in
      let later : m < n = beyond n (ends_at row.expiry n found) in
      absurd (omega (arith, low, later))

  away : (k : Key) → (same_key key k ≡ true → ⊥) → same_key key k ≡ false
  away k f = go (same_key key k) refl
    where
      go : (b : Bool) → same_key key k ≡ b → b ≡ false
      go true e = absurd (f e)
      go false e = refl

  abbrev pub There : State → Type 0
  There t = row_at t.downstream key ≡ Some row

  row_fires : {R : Type 0} (s : State) (o : Option R) (fire : R → State × List Message) → There s
      → ((r : R) → There (fire r).0) → There (option_map_or fire o (s, [])).0
  row_fires s o fire f g = grind arith

  pending_away : (s : State) (k : Key) (r : DownstreamRow) → same_key key k ≡ false → There s → There (prune_pending_due s k r).0
  unfolding prune_pending_due
  pending_away s k r off f = grind (arith, by_cond, row_change_away, apart_keys, row_drop_away)

  fired_keeps : (s : State) (kind : TimerKind) (k : Key)
      → (kind ≡ TimerKind.PrunePending → same_key key k ≡ false) → (kind ≡ TimerKind.DownstreamExpiry → same_key key k ≡ false)
      → There s → There (fired s kind k).0
  unfolding fired fire_row downstream_expired neighbour_due keepalive_due override_timer_due join_timer_due
      other_querier_gone querying_on group_repeat_due source_repeat_due sources_sent general_query_due hello_due
      group_record_due source_record_due with_members with_repeats_of_rows
  fired_keeps s kind k a b f =
      grind (arith, row_fires, pending_away, row_drop_away, apart_keys, assert_due_same, register_due_same)

  module _ (w : ℕ) where
    once_keeps : (t : State) (d : Ending) → Kept t → d.end ≤ m → shows d.timer.kind (Ends d.timer.key d.end) t ≡ true
        → Kept (fire_once w t d).0
    unfolding fire_once
    once_keeps t d f low shown =
        let opened : State = record t { present = d.end } in
        let fires : There (fired opened d.timer.kind d.timer.key).0 =
        fired_keeps opened d.timer.kind d.timer.key
        (λ is. away d.timer.key (isnt_pending t f d.timer.key d.end (subst (λ (kind : TimerKind). shows kind (Ends d.timer.key d.end) t ≡ true) is shown)))
        (λ is. away d.timer.key (isnt_expiring t f d.timer.key d.end low (subst (λ (kind : TimerKind). shows kind (Ends d.timer.key d.end) t ≡ true) is shown)))
        f.there in
        record {
          there = ap (λ (x : Rows). row_at x.downstream key) (settled_same t (fired opened d.timer.kind d.timer.key) w) ∙ fires;
          lawful = one_firing_is_lawful w t d f.lawful;
        }

    instant_keeps : (t : State) (e : Ending) → Kept t → e.end ≤ m → Kept (fire_instant w t e).0
    unfolding fire_instant
    instant_keeps t e f low =
        kept_to_the_end (next_due e.end) (fire_once w) Kept
        (λ u d g there.
        let next : IsNext e.end u d = is_next e.end u d there in
        let due : d.end ≤ e.end = next.due in once_keeps u d g (omega (arith, due, low)) next.shown)
        (length (timers t) + 1) t f

    pub time_keeps : (t : State) → Kept t → There (advanced t w m).state
    unfolding advanced fire_all
    time_keeps t f =
        (kept_to_the_end (next_due m) (fire_instant w) Kept
        (λ u d g there. instant_keeps u d g (is_next m u d there).due) (m + 2 - t.present) t f).there
