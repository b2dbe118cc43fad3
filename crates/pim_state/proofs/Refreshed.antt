-- A Hello that says nothing else of its neighbour than that it lasts changes of no interface whether the router is the
-- DR there.
use Rattle.std.{proofs.{Common.{◌≡◌, ◌==◌, ◌&&◌, ℕ, Bool, true, false, cond, map, not, List, [], ◌∷◌, Option, None, Some, is_some, nat_lt, refl, sym, ap, arith, eqb-true, ◌∙◌}, lemmas.List.Folds.list_all-map}, specs.{BTreeMap.{insert_entry, is_at}, Cmp.{first_so, second_so}, List.{AllByRecursion, Sorted.IsStrictlySortedBy}, Map.lookup, Option.option_map_or, Ordering.{is_eq, match_ordering}, declared.cmp.Ordering.{Ordering, TheVariants.{Less, Equal, Greater}}}}
use Rattle.pim_ifset.specs.Members.{Members}
use Rattle.pim_types.{specs.{declared.fact.{Key.Key, NeighbourRow.NeighbourRow}, Keys.{is_on, key_cmp, neighbour_key, same_key}}, proofs.Keys.key_cmp_total}
use Rattle.pim_wire.{specs.declared.hello.Hello.Hello as HelloValue}
use Rattle.pim_model.{specs.{Hellos.{hello_holdtime_of, is_generation_changed_among, neighbours_replaced}, Neighbours.{all_have_priority, is_better_dr, is_dr_among}, State.{Addressing, address_among, value_among}, Tables.{Table, has_row, keys_in, put, row_at, rows_on, same_option, set_row}}}
use Rattle.law_settled.{proofs.TableLaws.any_of_map}
use Rattle.pim_neighbours.{specs.Refreshed.is_refreshed}
use Rattle.pim_state.{specs.Shown.{Shows, is_dr_on}}

-- ---- a row that is put in place of one

all_later : (k q : Key) (ks : List Key) → key_cmp k q ≡ Less → AllByRecursion (λ y. key_cmp q y ≡ Less) ks
    → AllByRecursion (λ y. key_cmp k y ≡ Less) ks
all_later k q [] e all = tt
all_later k q (y ∷ ks) e all = (key_cmp_total.trans k q y e all.0, all_later k q ks e all.1)

module _ {R : Type 0} where
  below_step : (k q : Key) (r : R) (o : Option R) → key_cmp k q ≡ Less → is_some o ≡ false
      → is_some (cond (same_key k q) (Some r) o) ≡ false
  below_step k q r o e f = cc

  none_below : (k : Key) (t : Table R) → AllByRecursion (λ y. key_cmp k y ≡ Less) (keys_in t) → has_row t k ≡ false
  unfolding keys_in has_row row_at
  none_below k [] all = refl
  none_below k (x ∷ xs) all = below_step k x.0 x.1 (lookup (is_at (key_cmp k)) xs) all.0 (none_below k xs all.1)

-- ---- what the election reads

abbrev cut : NeighbourRow → NeighbourRow
cut r = record r { end = None; lan_delay = None; generation = None }

abbrev only_priority : Key × NeighbourRow → Key × NeighbourRow
only_priority e = (e.0, cut e.1)

module _ (k : Key) (row old : NeighbourRow) (same : row.priority ≡ old.priority) where
  refreshed_step : (x : Key × NeighbourRow) (xs : Table NeighbourRow) (o : Ordering) → key_cmp k x.0 ≡ o
      → AllByRecursion (λ y. key_cmp x.0 y ≡ Less) (keys_in xs)
      → cond (is_eq o) (Some x.1) (row_at xs k) ≡ Some old
      → (row_at xs k ≡ Some old → map only_priority (insert_entry key_cmp xs k row) ≡ map only_priority xs)
      → map only_priority (match_ordering o ((k, row) ∷ x ∷ xs) ((x.0, row) ∷ xs) (x ∷ insert_entry key_cmp xs k row))
      ≡ only_priority x ∷ map only_priority xs
  unfolding has_row
  refreshed_step x xs Less e above f ih =
      let gone : has_row xs k ≡ false = none_below k xs (all_later k x.0 (keys_in xs) e above) in
      cc (f, gone)
  refreshed_step x xs Equal e above f ih = cc
  refreshed_step x xs Greater e above f ih = ap (λ t. only_priority x ∷ t) (ih f)

  refreshed : (t : Table NeighbourRow) → IsStrictlySortedBy key_cmp (keys_in t) → row_at t k ≡ Some old
      → map only_priority (put t k row) ≡ map only_priority t
  unfolding put row_at keys_in IsStrictlySortedBy
  refreshed [] rises e = cc
  refreshed (x ∷ xs) rises e = refreshed_step x xs (key_cmp k x.0) refl rises.0 e (refreshed xs rises.1)

on_step : (i : ℕ) (x : Key × NeighbourRow) (xs : Table NeighbourRow) (b : Bool)
    → rows_on i (map only_priority xs) ≡ map only_priority (rows_on i xs)
    → cond b (only_priority x ∷ rows_on i (map only_priority xs)) (rows_on i (map only_priority xs)) ≡ map only_priority
    (cond b (x ∷ rows_on i xs) (rows_on i xs))
on_step i x xs b ih = grind arith

rows_on_cut : (i : ℕ) (t : Table NeighbourRow) → rows_on i (map only_priority t) ≡ map only_priority (rows_on i t)
unfolding rows_on
rows_on_cut i [] = refl
rows_on_cut i (x ∷ xs) = on_step i x xs (is_on i x.0) (rows_on_cut i xs)

priorities_cut : (t : Table NeighbourRow) → all_have_priority (map only_priority t) ≡ all_have_priority t
unfolding all_have_priority
priorities_cut t = list_all-map _ only_priority t

dr_cut : (priority address : ℕ) (t : Table NeighbourRow)
    → is_dr_among priority address (map only_priority t) ≡ is_dr_among priority address t
unfolding is_dr_among is_better_dr
dr_cut priority address t = grind (arith, priorities_cut, any_of_map)

elects : (configured : Addressing) (i : ℕ) (t : Table NeighbourRow)
    → is_dr_on configured (map only_priority t) i ≡ is_dr_on configured t i
elects configured i t =
    ap (λ (u : Table NeighbourRow). is_dr_among (value_among (λ c. c.priority) configured i) (address_among configured i) u)
    (rows_on_cut i t)
    ∙ dr_cut (value_among (λ c. c.priority) configured i) (address_among configured i) (rows_on i t)

-- ---- the Hello

same_priority : (m n : Option ℕ) → same_option m n ≡ true → n ≡ m
same_priority None None e = refl
same_priority None (Some n) e = cc
same_priority (Some m) None e = cc
same_priority (Some m) (Some n) e = ap Some (sym (eqb-true m n e))

isnt : (b : Bool) → not b ≡ true → b ≡ false
isnt false e = refl
isnt true e = cc

module _ (t : Table NeighbourRow) (present i address : ℕ) (h : HelloValue) (changed : Bool) where
  tests : Option NeighbourRow → Bool
  tests row =
      option_map_or (λ (r : NeighbourRow). same_option r.priority h.priority) row false
      && not (hello_holdtime_of h == 0) && not changed

  same_where : (row : Option NeighbourRow) → IsStrictlySortedBy key_cmp (keys_in t)
      → row_at t (neighbour_key i address) ≡ row → tests row ≡ true
      → map only_priority (neighbours_replaced present i address h t) ≡ map only_priority t
  unfolding tests neighbours_replaced set_row
  same_where None rises at e = cc
  same_where (Some old) rises at e =
      let first = first_so _ (not changed) e in
      let lasts : (hello_holdtime_of h == 0) ≡ false =
      isnt (hello_holdtime_of h == 0) (second_so _ (not (hello_holdtime_of h == 0)) first) in
      rw lasts
      (refreshed (neighbour_key i address) _ old
      (same_priority old.priority h.priority (first_so _ (not (hello_holdtime_of h == 0)) first)) t rises at)

-- the set of the interfaces on which the router is the DR stays as it is
pub elected_as_before : (configured : Addressing) (set : Members) (old new : Table NeighbourRow)
    (i address present : ℕ) (h : HelloValue) → IsStrictlySortedBy key_cmp (keys_in old)
    → is_refreshed old i address h ≡ true → new ≡ neighbours_replaced present i address h old
    → Shows set (is_dr_on configured old) → Shows set (is_dr_on configured new)
unfolding is_refreshed tests
elected_as_before configured set old new i address present h rises refreshes is shows q =
    let same : map only_priority new ≡ map only_priority old =
    ap (λ (t : Table NeighbourRow). map only_priority t) is
    ∙ same_where old present i address h (is_generation_changed_among old i address h)
    (row_at old (neighbour_key i address)) rises refl refreshes in
    let alike : is_dr_on configured old q ≡ is_dr_on configured new q =
    sym (elects configured q old) ∙ ap (λ (t : Table NeighbourRow). is_dr_on configured t q) (sym same)
    ∙ elects configured q new in
    shows q ∙ ap (λ b. nat_lt q 120 && b) alike
