-- Keys in the order of their groups: what those of a group tell, and that the order tells nothing.
use Rattle.std.{proofs.{Common.{◌≡◌, ◌<◌, ◌≤◌, ◌-◌, ◌==◌, ◌&&◌, ◌||◌, ℕ, zero, suc, Bool, true, false, cond, List, [], ◌∷◌, ◌++◌, map, length, take, drop, get_or, leb, ltb, is_some, refl, sym, ap, ◌∙◌, arith, subst}, lemmas.{Bool.Decides.nat_tests, List.{Elements.filter-append, Folds.list_any-append, length-drop, take_all, Sorted.{IsNonDecreasingBy-drop, IsPermutation-sym, list_any-IsPermutation}}}}, specs.{Prelude.{if◌then◌else◌, slice_range}, List.{filter, flat_map, list_any, Sorted.{IsNonDecreasingBy, IsPartitionPoint, IsPermutation}}}}
use Rattle.pim_ip.{specs.Addr.addr}
use Rattle.pim_types.{specs.{declared.fact.Key.Key, Keys.{group_in, is_of_group, source_in, source_key}}}
use Rattle.pim_model.{specs.{State.State, Tables.{ascending, is_among}, Upstream.{fact_keys, groups_of, sources_of, star_view}}}
use Rattle.law_settled.{proofs.{ListLaws.filter_within, Numbers.{any_ascending, members_tell}, TableLaws.{any_in_filter, any_of_map}}}
use Rattle.pim_state.{specs.declared.touched.Touched.{Touched, TheVariants.Keys}}
use Rattle.pim_views.{specs.Openings.{facts_of_whole, group_opening, is_of_all, is_whole, opening_of, source_opening, touched_sources}}
use Rattle.pim_fanout.{specs.{Before.opened_sources, Grouped.TouchAlike}}

-- ---- a part that has all that passes

module _ (q : Key → Bool) where
  skipped : (x : Key) (xs ys : List Key) (b : Bool) → b ≡ false → ys ≡ filter q xs → ys ≡ cond b (x ∷ filter q xs) (filter q xs)
  skipped x xs ys b e is = grind arith

  -- those before the place don't pass
  none_before : (xs : List Key) (n : ℕ) → ((k : ℕ) (d : Key) → k < n → k < length xs → q (get_or xs k d) ≡ false)
      → filter q (drop n xs) ≡ filter q xs
  none_before xs zero none = refl
  none_before [] (suc n) none = refl
  none_before (x ∷ xs) (suc n) none =
      skipped x xs _ (q x) (none 0 x (omega arith) (omega arith))
      (none_before xs n (λ k d p r. none (suc k) d (omega arith) (omega arith)))

  -- those from the place on don't pass
  none_after : (xs : List Key) (n : ℕ) → ((k : ℕ) (d : Key) → n ≤ k → k < length xs → q (get_or xs k d) ≡ false)
      → filter q (take n xs) ≡ filter q xs
  none_after [] zero none = refl
  none_after (x ∷ xs) zero none =
      skipped x xs [] (q x) (none 0 x (omega arith) (omega arith))
      (none_after xs zero (λ k d p r. none (suc k) d (omega arith) (omega arith)))
  none_after [] (suc n) none = refl
  none_after (x ∷ xs) (suc n) none =
      ap (λ (l : List Key). cond (q x) (x ∷ l) l) (none_after xs n (λ k d p r. none (suc k) d (omega arith) (omega arith)))

-- the keys of a group don't lie before the place where the groups reach it
module _ (g : ℕ) (keys : List Key) (first : ℕ) where
  rest_is : slice_range keys first (length keys) ≡ drop first keys
  rest_is = let long = length-drop first keys in take_all (length keys - first) (drop first keys) (omega (arith, long))

  pub from_place : IsPartitionPoint (λ k. ltb (group_in k) g ≡ true) (λ k. ltb (group_in k) g ≡ false) keys first
      → filter (is_of_group g) (slice_range keys first (length keys)) ≡ filter (is_of_group g) keys
  from_place point =
      ap (filter (is_of_group g)) rest_is
      ∙ none_before (is_of_group g) keys first (λ k d p r. below _ (point.0 k d (omega arith) p)) where
        below : (h : ℕ) → ltb h g ≡ true → (h == g) ≡ false
        below h e = grind (arith, nat_tests)

  pub order_from : IsNonDecreasingBy group_in keys → IsNonDecreasingBy group_in (slice_range keys first (length keys))
  order_from order = subst (IsNonDecreasingBy group_in) (sym rest_is) (IsNonDecreasingBy-drop group_in first keys order)

-- nor from the place on where they exceed it
pub up_to_place : (g : ℕ) (keys : List Key) (count : ℕ)
    → IsPartitionPoint (λ k. leb (group_in k) g ≡ true) (λ k. leb (group_in k) g ≡ false) keys count
    → filter (is_of_group g) (take count keys) ≡ filter (is_of_group g) keys
up_to_place g keys count point =
    none_after (is_of_group g) keys count (λ k d p r. above _ (point.1 k d p r)) where
      above : (h : ℕ) → leb h g ≡ false → (h == g) ≡ false
      above h e = grind (arith, nat_tests)

-- ---- the keys of a group tell all of it

abbrev has_source : ℕ → Key → Bool
has_source g k = is_of_group g k && is_some k.source

of_group : (g : ℕ) (k : Key) → has_source g k ≡ true → is_of_group g k ≡ true
of_group g k e = left (is_of_group g k) (is_some k.source) e where
  left : (b c : Bool) → (b && c) ≡ true → b ≡ true
  left b c e = grind arith

module _ (g : ℕ) (xs ys : List Key) (same : filter (is_of_group g) xs ≡ filter (is_of_group g) ys) where
  whole_alike : list_any (is_of_all g) xs ≡ list_any (is_of_all g) ys
  whole_alike =
      sym (any_in_filter (is_of_group g) (λ k. source_in k == 0) xs)
      ∙ ap (list_any (λ k. source_in k == 0)) same
      ∙ any_in_filter (is_of_group g) (λ k. source_in k == 0) ys

  named_alike : filter (has_source g) xs ≡ filter (has_source g) ys
  named_alike =
      sym (filter_within (has_source g) (is_of_group g) (of_group g) xs)
      ∙ ap (filter (has_source g)) same
      ∙ filter_within (has_source g) (is_of_group g) (of_group g) ys

  pub is_whole_alike : is_whole (Keys xs) g ≡ is_whole (Keys ys) g
  unfolding is_whole
  is_whole_alike = whole_alike

  pub sources_alike : (s : State) → touched_sources s (Keys xs) g ≡ touched_sources s (Keys ys) g
  unfolding touched_sources sources_of
  sources_alike s =
      ap (λ (b : Bool). ascending (map source_in (filter (has_source g) ((if b then fact_keys s else []) ++ xs)))) whole_alike
      ∙ ap (λ (ks : List Key). ascending (map source_in ks))
      (filter-append (has_source g) (facts_of_whole s ys g) xs
      ∙ ap (λ (ks : List Key). filter (has_source g) (facts_of_whole s ys g) ++ ks) named_alike
      ∙ sym (filter-append (has_source g) (facts_of_whole s ys g) ys))

-- ---- the order of the keys tells nothing

module _ (xs ys : List Key) (moved : IsPermutation xs ys) where
  any_alike : (p : Key → Bool) → list_any p xs ≡ list_any p ys
  any_alike p = list_any-IsPermutation p xs ys moved

  groups_alike : groups_of xs ≡ groups_of ys
  unfolding groups_of is_among
  groups_alike = members_tell (map group_in xs) (map group_in ys) (λ n.
      any_ascending (λ m. m == n) (map group_in xs) ∙ any_of_map (λ m. m == n) group_in xs
      ∙ (any_alike (λ k. group_in k == n)
      ∙ sym (any_ascending (λ m. m == n) (map group_in ys) ∙ any_of_map (λ m. m == n) group_in ys)))

  any_whole : (g : ℕ) → list_any (is_of_all g) xs ≡ list_any (is_of_all g) ys
  any_whole g = any_alike (is_of_all g)

  any_source : (s : State) (g n : ℕ)
      → list_any (λ m. m == n) (map source_in (filter (has_source g) (facts_of_whole s xs g ++ xs)))
      ≡ list_any (λ m. m == n) (map source_in (filter (has_source g) (facts_of_whole s ys g ++ ys)))
  any_source s g n =
      let q : Key → Bool = has_source g in
      let r : Key → Bool = λ k. q k && (source_in k == n) in
      let told : (ks : List Key) → list_any (λ m. m == n) (map source_in (filter q ks)) ≡ list_any r ks =
      λ ks. any_of_map (λ m. m == n) source_in (filter q ks) ∙ any_in_filter q (λ k. source_in k == n) ks in
      told (facts_of_whole s xs g ++ xs)
      ∙ list_any-append r (facts_of_whole s xs g) xs
      ∙ (λ j. list_any r (if any_whole g j then fact_keys s else []) || any_alike r j)
      ∙ sym (list_any-append r (facts_of_whole s ys g) ys)
      ∙ sym (told (facts_of_whole s ys g ++ ys))

  all_sources : (s : State) (g : ℕ) → touched_sources s (Keys xs) g ≡ touched_sources s (Keys ys) g
  unfolding touched_sources sources_of is_among
  all_sources s g = members_tell _ _ (λ n.
      any_ascending (λ m. m == n) _ ∙ any_source s g n ∙ sym (any_ascending (λ m. m == n) _))

  opened_alike : (s : State) (g : ℕ) → group_opening s (Keys xs) g ≡ group_opening s (Keys ys) g
  unfolding is_whole
  opened_alike s g = λ j. record {
    group = addr g;
    is_whole = any_whole g j;
    star = star_view s g;
    sources = map (source_opening s g) (all_sources s g j);
  }

  pub alike : TouchAlike (Keys xs) (Keys ys)
  unfolding opening_of opened_sources
  alike = record {
    opening = λ s. λ j. map (λ g. opened_alike s g j) (groups_alike j);
    sources = λ s. λ j. flat_map (λ g. map (source_key 0 g) (all_sources s g j)) (groups_alike j);
  }

pub sorted_alike : (touched : Touched) (keys given sorted shown : List Key) → touched ≡ Keys keys → given ≡ keys
    → IsPermutation given sorted → shown ≡ sorted → TouchAlike (Keys shown) touched
sorted_alike touched keys given sorted shown is same moved told =
    subst (TouchAlike (Keys shown)) (sym is)
    (subst (λ ks. TouchAlike (Keys ks) (Keys keys)) (sym told)
    (alike sorted keys (IsPermutation-sym keys sorted (subst (λ ks. IsPermutation ks sorted) same moved))))
