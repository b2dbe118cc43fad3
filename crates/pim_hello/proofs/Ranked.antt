-- The election of the DR where one neighbour's row is another: by that row, and by the other neighbours.
use Rattle.std.{proofs.Common.{◌≡◌, ◌&&◌, ◌||◌, ℕ, Bool, true, false, not, cond, [], ◌∷◌, Option, Some, None, is_none, is_some, refl, sym, ap, ◌∙◌, eq-eqb}, specs.{BTreeMap.insert_entry, List.{AllByRecursion, list_any, Sorted.IsStrictlySortedBy}, Option.option_map_or, Ordering.{is_eq, match_ordering}, declared.cmp.Ordering.{Ordering, TheVariants.{Less, Equal, Greater}}}}
use Rattle.pim_types.{specs.{declared.fact.{Key.Key, NeighbourRow.NeighbourRow}, Keys.{iface_in, is_on, key_cmp, same_key}}, proofs.Keys.equal_keys}
use Rattle.pim_model.{specs.{Neighbours.{all_have_priority, is_better_dr, is_dr_among}, Tables.{Table, drop_at, drop_where, has_row, keys_in, put, rows_on, set_row}}}
use Rattle.law_settled.{proofs.{ListLaws.or_swapped, TableLaws.any_in_filter}}
use Rattle.law_events.{proofs.{OwnKeys.{all_later, none_below}, Registers.nothing_dropped}}
use Rattle.pim_hello.{specs.Election.{is_other, is_unranked, some_other}}

-- ---- what passes in a table where one row is set

module _ (k : Key) (q : Key × NeighbourRow → Bool) where
  module _ (row : NeighbourRow) where
    put_step : (x : Key × NeighbourRow) (xs : Table NeighbourRow) (o : Ordering) → key_cmp k x.0 ≡ o
        → AllByRecursion (λ y. key_cmp x.0 y ≡ Less) (keys_in xs)
        → list_any q (insert_entry key_cmp xs k row) ≡ (q (k, row) || list_any q (drop_at xs k))
        → list_any q (match_ordering o ((k, row) ∷ x ∷ xs) ((x.0, row) ∷ xs) (x ∷ insert_entry key_cmp xs k row))
        ≡ (q (k, row) || list_any q (cond (not (is_eq o)) (x ∷ drop_at xs k) (drop_at xs k)))
    put_step x xs Less e above ih =
        ap (λ (t : Table NeighbourRow). q (k, row) || (q x || list_any q t))
        (sym (nothing_dropped k xs (none_below k xs (all_later k x.0 (keys_in xs) e above))))
    put_step x xs Equal e above ih =
        let same : k ≡ x.0 = equal_keys k x.0 (ap is_eq e) in
        ap (λ (p : Key). q (p, row) || list_any q xs) (sym same)
        ∙ ap (λ (t : Table NeighbourRow). q (k, row) || list_any q t)
        (sym (nothing_dropped k xs ((λ j. has_row xs (same j)) ∙ none_below x.0 xs above)))
    put_step x xs Greater e above ih =
        ap (λ b. q x || b) ih ∙ or_swapped (q x) (q (k, row)) (list_any q (drop_at xs k))

    any_put : (t : Table NeighbourRow) → IsStrictlySortedBy key_cmp (keys_in t)
        → list_any q (put t k row) ≡ (q (k, row) || list_any q (drop_at t k))
    unfolding put keys_in IsStrictlySortedBy drop_at drop_where
    any_put [] rises = refl
    any_put (x ∷ xs) rises = put_step x xs (key_cmp k x.0) refl rises.0 (any_put xs rises.1)

  -- of the row that is set, if any, and of the others
  any_set : (t : Table NeighbourRow) → IsStrictlySortedBy key_cmp (keys_in t) → (row : Option NeighbourRow)
      → list_any q (set_row t k row) ≡ (option_map_or (λ r. q (k, r)) row false || list_any q (drop_at t k))
  unfolding set_row
  any_set t rises None = refl
  any_set t rises (Some row) = any_put row t rises

-- on its interface
module _ (k : Key) (p : Key × NeighbourRow → Bool) (t : Table NeighbourRow)
    (rises : IsStrictlySortedBy key_cmp (keys_in t)) where
  abbrev here : Key × NeighbourRow → Bool
  here e = is_on (iface_in k) e.0 && p e

  swapped : (a b c : Bool) → (a && (b && c)) ≡ (b && (a && c))
  swapped true true c = refl
  swapped true false c = refl
  swapped false true c = refl
  swapped false false c = refl

  rest : list_any here (drop_at t k) ≡ some_other k p t
  unfolding drop_at drop_where rows_on
  rest =
      any_in_filter (λ e. not (same_key k e.0)) here t
      ∙ (λ j. list_any (λ e. swapped (not (same_key k e.0)) (is_on (iface_in k) e.0) (p e) j) t)
      ∙ sym (any_in_filter (λ e. is_on (iface_in k) e.0) (is_other k p) t)

  on_itself : (row : Option NeighbourRow)
      → option_map_or (λ r. here (k, r)) row false ≡ option_map_or (λ r. p (k, r)) row false
  on_itself None = refl
  on_itself (Some r) = ap (λ b. b && p (k, r)) (eq-eqb (iface_in k) (iface_in k) refl)

  any_there : (row : Option NeighbourRow) → list_any p (rows_on (iface_in k) (set_row t k row))
      ≡ (option_map_or (λ r. p (k, r)) row false || some_other k p t)
  unfolding rows_on
  any_there row =
      any_in_filter (λ e. is_on (iface_in k) e.0) p (set_row t k row)
      ∙ any_set k here t rises row
      ∙ (λ j. on_itself row j || rest j)

-- ---- the election

all_ranked : (t : Table NeighbourRow) → all_have_priority t ≡ not (list_any is_unranked t)
unfolding all_have_priority
all_ranked [] = refl
all_ranked (x ∷ xs) = step (x.1).priority (list_any is_unranked xs) _ (all_ranked xs)
  where
    step : (o : Option ℕ) (b c : Bool) → c ≡ not b → (is_some o && c) ≡ not (is_none o || b)
    step None b c e = refl
    step (Some n) b c e = e

module _ (k : Key) (t : Table NeighbourRow) (rises : IsStrictlySortedBy key_cmp (keys_in t)) (priority address : ℕ) where
  by_priority : (row : Option NeighbourRow) → all_have_priority (rows_on (iface_in k) (set_row t k row))
      ≡ not (option_map_or (λ (r : NeighbourRow). is_none r.priority) row false
      || some_other k is_unranked t)
  by_priority row =
      all_ranked (rows_on (iface_in k) (set_row t k row))
      ∙ ap not (any_there k is_unranked t rises row)

  pub dr_with : (row : Option NeighbourRow) (ranked : Bool)
      → ranked ≡ not (option_map_or (λ (r : NeighbourRow). is_none r.priority) row false
      || some_other k is_unranked t)
      → is_dr_among priority address (rows_on (iface_in k) (set_row t k row))
      ≡ not (option_map_or (λ r. is_better_dr ranked priority address (k, r)) row false
      || some_other k (is_better_dr ranked priority address) t)
  unfolding is_dr_among
  dr_with row ranked is =
      (λ j. not (list_any (is_better_dr ((by_priority row ∙ sym is) j) priority address)
      (rows_on (iface_in k) (set_row t k row))))
      ∙ ap not (any_there k (is_better_dr ranked priority address) t rises row)
