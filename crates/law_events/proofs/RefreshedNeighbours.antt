-- A Hello that says again what it said touches nothing.
use Rattle.std.{proofs.Common.{◌≡◌, ◌==◌, ℕ, false, cond, [], ◌∷◌, map, Some, refl, ap, arith}, specs.{BTreeMap.insert_entry, List.{AllByRecursion, Sorted.IsStrictlySortedBy}, Ordering.{is_eq, match_ordering}, declared.cmp.Ordering.{Ordering, TheVariants.{Less, Equal, Greater}}}}
use Rattle.pim_types.{specs.{declared.fact.{Key.Key, NeighbourRow.NeighbourRow}, Keys.{key_cmp, neighbour_key}}}
use Rattle.pim_wire.{specs.declared.hello.Hello.Hello as HelloValue}
use Rattle.pim_model.{specs.{Hellos.{hello_holdtime_of, hello_received, is_generation_changed, neighbour_replaced, neighbours_replaced}, State.State, Tables.{Table, has_row, keys_in, put, row_at, set_row}}}
use Rattle.law_events.{specs.{Locality.{AgreesBut, touching}, Scopes.{only_priority, scope}}, proofs.OwnKeys.{all_later, none_below}}

module _ (k : Key) (row old : NeighbourRow) (same : row.priority ≡ old.priority) where
  refreshed_step : (x : Key × NeighbourRow) (xs : Table NeighbourRow) (o : Ordering) → key_cmp k x.0 ≡ o
      → AllByRecursion (λ y. key_cmp x.0 y ≡ Less) (keys_in xs)
      → cond (is_eq o) (Some x.1) (row_at xs k) ≡ Some old
      → (row_at xs k ≡ Some old → map only_priority (insert_entry key_cmp xs k row) ≡ map only_priority xs)
      → map only_priority (match_ordering o ((k, row) ∷ x ∷ xs) ((x.0, row) ∷ xs) (x ∷ insert_entry key_cmp xs k row))
      ≡ only_priority x ∷ map only_priority xs
  unfolding has_row
  refreshed_step x xs Less e above f ih =
      let gone : has_row xs k ≡ false = none_below k xs (all_later k x.0 (keys_in xs) e above) in
      cc (f, gone)
  refreshed_step x xs Equal e above f ih = cc
  refreshed_step x xs Greater e above f ih = ap (λ t. only_priority x ∷ t) (ih f)

  refreshed : (t : Table NeighbourRow) → IsStrictlySortedBy key_cmp (keys_in t) → row_at t k ≡ Some old
      → map only_priority (put t k row) ≡ map only_priority t
  unfolding put row_at keys_in IsStrictlySortedBy
  refreshed [] rises e = cc
  refreshed (x ∷ xs) rises e = refreshed_step x xs (key_cmp k x.0) refl rises.0 e (refreshed xs rises.1)

pub hello_again_touches_none : (s : State) (i address : ℕ) (h : HelloValue) (w : ℕ) (old : NeighbourRow)
    → IsStrictlySortedBy key_cmp (keys_in s.neighbours) → row_at s.neighbours (neighbour_key i address) ≡ Some old
    → h.priority ≡ old.priority → (hello_holdtime_of h == 0) ≡ false → is_generation_changed s i address h ≡ false
    → AgreesBut (touching []) s (hello_received s i address h w)
unfolding hello_received neighbour_replaced neighbours_replaced has_row set_row scope
hello_again_touches_none s i address h w old rises there same lasts unchanged g e = grind (arith, refreshed)
