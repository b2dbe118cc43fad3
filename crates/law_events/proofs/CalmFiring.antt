-- Firing leaves the interfaces as they count, and neighbours only go: so where none has gone in the end, none goes in
-- any firing.
use Rattle.std.{proofs.{Common.{◌≡◌, ℕ, zero, suc, ◌+◌, ◌-◌, ◌≤◌, Bool, true, false, ◌&&◌, cond, List, [], ◌∷◌, filter, length, Option, Some, is_some, option_map, refl, sym, ap, subst, ◌∙◌, arith}, lemmas.List.Folds.list_all-append}, specs.{Cmp.{second_so, Derive.both_true}, declared.cmp.Ordering.TheVariants.Less as IsLess, List.{AllByRecursion, cons_option, Sorted.IsStrictlySortedBy}, Option.option_map_or}}
use Rattle.pim_types.{specs.{declared.{fact.{AssertRow.AssertRow, DownstreamRow.DownstreamRow, InterfaceRow.InterfaceRow, Key.Key, RegisterRow.RegisterRow, RegisterState.RegisterState}, timer.TimerKind.TimerKind}, Keys.{key_cmp, same_key}}, proofs.Keys.equal_keys}
use Rattle.pim_model.{specs.{Asserts.{assert_due, assert_forgotten, wins_again}, Clearing.clear, declared.accepted.Accepted.Accepted, Downstream.{downstream_expired, prune_pending_due}, Firing.{fire_once, fire_row, fired, keepalive_due, settled}, Hellos.{hello_due, neighbour_due}, Messages.Message, Querier.{general_query_due, group_record_due, group_repeat_due, other_querier_gone, querying_on, source_record_due, source_repeat_due, sources_sent}, Reach.{keeps_neighbours, own_firing, told_all, told_instant, told_once}, Records.{with_members, with_repeats_of_rows}, Registers.register_due, Repeat.{after_next, and_then, until_none}, Rows.same_rows, State.State, Step.{advanced, taken}, Tables.{Table, change_row, changed_entry, drop_at, drop_where, has_row, keys_in, row_at}, Timers.{Ending, next_due, timers}, Upstream.{join_timer_due, override_timer_due}}}
use Rattle.law_settled.{proofs.{ListLaws.{by_cond, filter_shorter}, TurnLaws.kept_to_the_end, LawfulFiring.one_firing_is_lawful}, specs.Ready.{IsLawful, Rises}}
use Rattle.law_events.{specs.Calm.{is_calm, is_calm_event}, proofs.{OwnKeys.none_below, Advance.{AllHold, told_calm, told_fires}, Calm.{SameAround, around_of, calm_of_change, event_calm, generation_of, generations, keeps_itself, kept_alike, settled_same}, Reached.clearing_keeps}}

-- ---- the Hello timer's end

module _ (k : Key) (r : InterfaceRow) (end : ℕ) where
  abbrev sent : InterfaceRow → Option InterfaceRow
  sent old = Some (record r { hello_end = end })

  absent_step : (x : Key × InterfaceRow) (xs ys : Table InterfaceRow) (b : Bool)
      → is_some (cond b (Some x.1) (row_at xs k)) ≡ false
      → (is_some (row_at xs k) ≡ false → generations xs ≡ generations ys)
      → generation_of x ∷ generations xs
      ≡ generations (cons_option (cond b (option_map (λ (row : InterfaceRow). let p : Key × InterfaceRow = (x.0, row) in p) (sent x.1)) (Some x)) ys)
  absent_step x xs ys b e ih = grind (arith, generation_of)

  absent : (t : Table InterfaceRow) → has_row t k ≡ false → generations t ≡ generations (change_row sent k t)
  unfolding has_row row_at change_row changed_entry
  absent [] e = refl
  absent (x ∷ xs) e = absent_step x xs (change_row sent k xs) (same_key k x.0) e (absent xs)

  there_step : (x : Key × InterfaceRow) (xs ys : Table InterfaceRow) (b : Bool) → same_key k x.0 ≡ b
      → AllByRecursion (λ y. key_cmp x.0 y ≡ IsLess) (keys_in xs)
      → (has_row xs k ≡ false → generations xs ≡ generations ys)
      → (row_at xs k ≡ Some r → generations xs ≡ generations ys)
      → cond b (Some x.1) (row_at xs k) ≡ Some r
      → generation_of x ∷ generations xs
      ≡ generations (cons_option (cond b (option_map (λ (row : InterfaceRow). let p : Key × InterfaceRow = (x.0, row) in p) (sent x.1)) (Some x)) ys)
  there_step x xs ys true e above gone ih f =
      let same : x.1 ≡ r = cc in
      let none : has_row xs k ≡ false =
      none_below k xs (subst (λ (q : Key). AllByRecursion (λ y. key_cmp q y ≡ IsLess) (keys_in xs)) (sym (equal_keys k x.0 e)) above) in
      λ j. let p : Key × ℕ = (x.0, (same j).generation) in p ∷ gone none j
  there_step x xs ys false e above gone ih f = ap (λ t. generation_of x ∷ t) (ih f)

  there : (t : Table InterfaceRow) → Rises t → row_at t k ≡ Some r → generations t ≡ generations (change_row sent k t)
  unfolding row_at change_row changed_entry keys_in IsStrictlySortedBy
  there [] rises e = cc
  there (x ∷ xs) rises e = grind (arith, there xs rises.1, there_step, absent)

-- ---- neighbours only go

module _ {X : Type 0} (p : X → Bool) where
  all_step : (x : X) (xs : List X) (b : Bool) → length (filter p xs) ≤ length xs
      → (length (filter p xs) ≡ length xs → xs ≡ filter p xs)
      → length (cond b (x ∷ filter p xs) (filter p xs)) ≡ suc (length xs)
      → x ∷ xs ≡ cond b (x ∷ filter p xs) (filter p xs)
  all_step x xs b shorter ih e = grind arith

  none_gone : (xs : List X) → length (filter p xs) ≡ length xs → xs ≡ filter p xs
  none_gone [] e = refl
  none_gone (x ∷ xs) e = all_step x xs (p x) (filter_shorter p xs) (none_gone xs) e

record Fewer (s t : State) : Type 0 where
  generations_same : generations s.interfaces ≡ generations t.interfaces
  fewer : length t.neighbours ≤ length s.neighbours
  none_gone : length t.neighbours ≡ length s.neighbours → s.neighbours ≡ t.neighbours

of_same : (s t : State) → SameAround s t → Fewer s t
of_same s t same = grind (arith, none_gone)

fewer_still : (s t u : State) → Fewer s t → Fewer t u → Fewer s u
fewer_still s t u f h = grind (arith, none_gone)

-- ---- the expiry of a timer

module _ (s : State) where
  abbrev Leaves : State × List Message → Type 0
  Leaves p = SameAround s p.0

  row_fires : {R : Type 0} (fire : R → State × List Message) (o : Option R) → ((r : R) → o ≡ Some r → Leaves (fire r))
      → Leaves (option_map_or fire o (s, []))
  row_fires fire o there = grind (arith, there)

  pending_same : (k : Key) (r : DownstreamRow) → Leaves (prune_pending_due s k r)
  unfolding prune_pending_due
  pending_same k r = grind (arith, by_cond)

  assert_same : (k : Key) (r : AssertRow) → Leaves (assert_due s k r)
  unfolding assert_due wins_again assert_forgotten
  assert_same k r = grind (arith, by_cond)

  register_same : (k : Key) (state : RegisterState) → Leaves (register_due s k state)
  unfolding register_due
  register_same k state = grind arith

  fired_same : Rises s.interfaces → (kind : TimerKind) (k : Key) → (kind ≡ TimerKind.Neighbour → ⊥)
      → Leaves (fired s kind k)
  unfolding fired fire_row downstream_expired group_record_due source_record_due with_members with_repeats_of_rows
      keepalive_due override_timer_due join_timer_due other_querier_gone querying_on group_repeat_due source_repeat_due
      sources_sent general_query_due hello_due
  fired_same rises TimerKind.Neighbour k other = absurd (other refl)
  fired_same rises TimerKind.PrunePending k other = row_fires _ (row_at s.downstream k) (λ r e. pending_same k r)
  fired_same rises TimerKind.DownstreamExpiry k other = record { generations_same = refl; neighbours_same = refl }
  fired_same rises TimerKind.GroupRecord k other = record { generations_same = refl; neighbours_same = refl }
  fired_same rises TimerKind.SourceRecord k other = record { generations_same = refl; neighbours_same = refl }
  fired_same rises TimerKind.Assert k other = row_fires _ (row_at s.asserts k) (λ r e. assert_same k r)
  fired_same rises TimerKind.Keepalive k other = grind (arith, row_fires)
  fired_same rises TimerKind.Register k other =
      row_fires _ (row_at s.registers k) (λ (r : RegisterRow) e. register_same k r.state)
  fired_same rises TimerKind.Override k other = record { generations_same = refl; neighbours_same = refl }
  fired_same rises TimerKind.Join k other = record { generations_same = refl; neighbours_same = refl }
  fired_same rises TimerKind.OtherQuerier k other = record { generations_same = refl; neighbours_same = refl }
  fired_same rises TimerKind.GroupRepeat k other = grind (arith, row_fires)
  fired_same rises TimerKind.SourceRepeat k other = record { generations_same = refl; neighbours_same = refl }
  fired_same rises TimerKind.GeneralQuery k other = grind (arith, row_fires)
  fired_same rises TimerKind.Hello k other =
      row_fires _ (row_at s.interfaces k)
      (λ r e. record { generations_same = there k r (s.present + 30000) s.interfaces rises e; neighbours_same = refl })

-- a neighbour's end is the only one that takes a neighbour away
either_kind : (s : State) → Rises s.interfaces → (kind : TimerKind) (k : Key) → Fewer s (fired s kind k).0
unfolding fired neighbour_due drop_at drop_where
either_kind s rises TimerKind.Neighbour k = grind (arith, filter_shorter, none_gone)
either_kind s rises kind k = of_same s (fired s kind k).0 (fired_same s rises kind k (λ e. cc))

own_fewer : (s : State) → IsLawful s → (e : Ending) → Fewer s (own_firing s e)
unfolding own_firing
own_fewer s lawful e =
    let opened : State = record s { present = e.end } in
    let fewer : Fewer opened (fired opened e.timer.kind e.timer.key).0 =
    either_kind opened lawful.ordered.interfaces e.timer.kind e.timer.key in
    record { generations_same = fewer.generations_same; fewer = fewer.fewer; none_gone = fewer.none_gone }

after_own : (w : ℕ) (s : State) (e : Ending) → SameAround (own_firing s e) (fire_once w s e).0
unfolding fire_once own_firing
after_own w s e =
    let change : State × List Message = fired (record s { present = e.end }) e.timer.kind e.timer.key in
    let after : State = (clear s change.0).0 in
    let cleared : SameAround change.0 after = around_of change.0 after (clearing_keeps s change.0) in
    let told : SameAround after (settled s change w).0 = (settled_same s change w).around in
    record {
      generations_same = cleared.generations_same ∙ told.generations_same;
      neighbours_same = cleared.neighbours_same ∙ told.neighbours_same;
    }

once_fewer : (w : ℕ) (s : State) → IsLawful s → (e : Ending) → Fewer s (fire_once w s e).0
once_fewer w s lawful e =
    fewer_still s (own_firing s e) (fire_once w s e).0 (own_fewer s lawful e)
    (of_same (own_firing s e) (fire_once w s e).0 (after_own w s e))

-- where none goes the firing is calm
once_calm : (w : ℕ) (s : State) → IsLawful s → (e : Ending)
    → length ((fire_once w s e).0).neighbours ≡ length s.neighbours → is_calm s (own_firing s e) ≡ true
once_calm w s lawful e lengths =
    let own : Fewer s (own_firing s e) = own_fewer s lawful e in
    let still : length (own_firing s e).neighbours ≡ length ((fire_once w s e).0).neighbours =
    ap (λ ns. length ns) (after_own w s e).neighbours_same in
    calm_of_change s (own_firing s e)
    (sym (kept_alike s s (own_firing s e)
    (record { generations_same = own.generations_same; neighbours_same = own.none_gone (still ∙ lengths) }))
    ∙ keeps_itself s)

-- ---- all of them

module _ {S D : Type 0} (next : S → Option D) (b : S → D → S × List Bool) (Kept : S → Type 0) (count : S → ℕ)
    (keeps : (s : S) (d : D) → Kept s → Kept (b s d).0)
    (falls : (s : S) (d : D) → Kept s → count (b s d).0 ≤ count s)
    (holds : (s : S) (d : D) → Kept s → count (b s d).0 ≡ count s → AllHold (b s d).1) where
  falls_turn : (n : ℕ) → ((t : S) → Kept t → count (until_none next b n t).0 ≤ count t) → (s : S) (o : Option D)
      → Kept s → count (after_next next b (λ t. until_none next b n t) s o).0 ≤ count s
  unfolding after_next and_then
  falls_turn n ih s o kept = grind arith

  end_falls : (n : ℕ) (s : S) → Kept s → count (until_none next b n s).0 ≤ count s
  unfolding until_none
  end_falls zero s kept = omega arith
  end_falls (suc n) s kept = falls_turn n (end_falls n) s (next s) kept

  holds_turn : (n : ℕ)
      → ((t : S) → Kept t → count (until_none next b n t).0 ≡ count t → AllHold (until_none next b n t).1)
      → (s : S) (o : Option D) → Kept s → count (after_next next b (λ t. until_none next b n t) s o).0 ≡ count s
      → AllHold (after_next next b (λ t. until_none next b n t) s o).1
  unfolding after_next and_then
  holds_turn n ih s o kept e = grind (arith, end_falls, list_all-append)

  all_hold : (n : ℕ) (s : S) → Kept s → count (until_none next b n s).0 ≡ count s → AllHold (until_none next b n s).1
  unfolding until_none
  all_hold zero s kept e = refl
  all_hold (suc n) s kept e = holds_turn n (all_hold n) s (next s) kept e

abbrev neighbours_left : State → ℕ
neighbours_left s = length s.neighbours

module _ (w : ℕ) where
  told_lawful : (s : State) (e : Ending) → IsLawful s → IsLawful (told_once told_calm w s e).0
  unfolding told_once
  told_lawful s e lawful = one_firing_is_lawful w s e lawful

  told_falls : (s : State) (e : Ending) → IsLawful s
      → neighbours_left (told_once told_calm w s e).0 ≤ neighbours_left s
  unfolding told_once
  told_falls s e lawful = (once_fewer w s lawful e).fewer

  told_holds : (s : State) (e : Ending) → IsLawful s
      → neighbours_left (told_once told_calm w s e).0 ≡ neighbours_left s → AllHold (told_once told_calm w s e).1
  unfolding told_once
  told_holds s e lawful same = both_true (once_calm w s lawful e same) refl

  instant_lawful : (s : State) (e : Ending) → IsLawful s → IsLawful (told_instant told_calm w s e).0
  unfolding told_instant
  instant_lawful s e lawful =
      kept_to_the_end (next_due e.end) (told_once told_calm w) IsLawful (λ t d f there. told_lawful t d f)
      (length (timers s) + 1) s lawful

  instant_falls : (s : State) (e : Ending) → IsLawful s
      → neighbours_left (told_instant told_calm w s e).0 ≤ neighbours_left s
  unfolding told_instant
  instant_falls s e lawful =
      end_falls (next_due e.end) (told_once told_calm w) IsLawful neighbours_left told_lawful told_falls told_holds
      (length (timers s) + 1) s lawful

  instant_holds : (s : State) (e : Ending) → IsLawful s
      → neighbours_left (told_instant told_calm w s e).0 ≡ neighbours_left s
      → AllHold (told_instant told_calm w s e).1
  unfolding told_instant
  instant_holds s e lawful same =
      all_hold (next_due e.end) (told_once told_calm w) IsLawful neighbours_left told_lawful told_falls told_holds
      (length (timers s) + 1) s lawful same

  all_calm : (moment : ℕ) (s : State) → IsLawful s
      → neighbours_left (told_all told_calm w moment s).0 ≡ neighbours_left s
      → AllHold (told_all told_calm w moment s).1
  unfolding told_all
  all_calm moment s lawful same =
      all_hold (next_due moment) (told_instant told_calm w) IsLawful neighbours_left instant_lawful instant_falls
      instant_holds (moment + 2 - s.present) s lawful same

-- ---- at the end of any event

rows_many : {R : Type 0} (same : R → R → Bool) (t u : Table R) → same_rows same t u ≡ true → length t ≡ length u
unfolding same_rows
rows_many same [] [] e = refl
rows_many same [] (y ∷ ys) e = cc
rows_many same (x ∷ xs) [] e = cc
rows_many same (x ∷ xs) (y ∷ ys) e =
    grind (arith, rows_many same xs ys (second_so (same_key x.0 y.0 && same x.1 y.1) (same_rows same xs ys) e))

kept_many : (s t : State) → keeps_neighbours s t ≡ true → length t.neighbours ≡ length s.neighbours
unfolding keeps_neighbours
kept_many s t e = grind (arith, rows_many)

advance_calm : (w moment : ℕ) (s : State) → IsLawful s → keeps_neighbours s (advanced s w moment).state ≡ true
    → AllHold (told_all told_calm w moment s).1
unfolding advanced
advance_calm w moment s lawful e = grind (arith, all_calm, told_fires, told_calm, kept_many)

pub calm_by_end : (s : State) → IsLawful s → (w : ℕ) (a : Accepted) → keeps_neighbours s (taken s w a).state ≡ true
    → is_calm_event s w a ≡ true
unfolding taken is_calm_event
calm_by_end s lawful w a e = grind (arith, advance_calm, event_calm)
