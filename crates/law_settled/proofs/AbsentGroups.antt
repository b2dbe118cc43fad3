-- A group without facts: nothing is desired of it, and it has no sources.
use Rattle.std.{proofs.{Common.{◌≡◌, ◌&&◌, ◌||◌, ℕ, Bool, true, false, cond, List, [], ◌∷◌, ◌++◌, map, Some, None, is_some, refl, sym, ap, ◌∙◌, eq-eqb, arith}, lemmas.{Bool.{and_left, and_right, both_ways, false_from_ne_true, or_from, or_parts}, List.Folds.list_any-append}}, specs.List.{filter, list_any}}
use Rattle.pim_types.{specs.{declared.fact.Key.Key, Keys.{is_of_group, same_key, source_in, star_key}}, proofs.Keys.equal_keys}
use Rattle.pim_model.{specs.{Desires.join_desired_star, Receivers.{is_exclude, is_exclude_among}, Sets.{immediate_olist_star, is_empty, joins_star, pim_include_star}, State.State, Tables.{Table, ascending, has_row, keys_in, row_at}, Upstream.{fact_keys, sources_of}}}
use Rattle.law_settled.{proofs.TableLaws.none_passes}

module _ (g : ℕ) where
  -- some key is of the group
  abbrev pub names : List Key → Bool
  names keys = list_any (λ k. is_of_group g k) keys

  record IsAbsent (keys : List Key) : Type 0 where
    absent : names keys ≡ false

  both_absent : (xs ys : List Key) → IsAbsent (xs ++ ys) → (names xs ≡ false) × (names ys ≡ false)
  both_absent xs ys e = or_parts (names xs) (names ys) (sym (list_any-append (λ k. is_of_group g k) xs ys) ∙ e.absent)

  first : (xs ys : List Key) → IsAbsent (xs ++ ys) → IsAbsent xs
  first xs ys e = record { absent = (both_absent xs ys e).0 }

  second : (xs ys : List Key) → IsAbsent (xs ++ ys) → IsAbsent ys
  second xs ys e = record { absent = (both_absent xs ys e).1 }

  -- a key of the group has no row
  module _ {R : Type 0} (k : Key) (here : is_of_group g k ≡ true) where
    absent_step : (x : Key × R) (xs : Table R) (b : Bool) → same_key k x.0 ≡ b
        → (is_of_group g x.0 ≡ false) × (names (keys_in xs) ≡ false)
        → (names (keys_in xs) ≡ false → row_at xs k ≡ None) → cond b (Some x.1) (row_at xs k) ≡ None
    absent_step x xs true same apart rest = cc (ap (λ q. is_of_group g q) (equal_keys k x.0 same), here, apart.0)
    absent_step x xs false same apart rest = rest apart.1

    pub no_row_at : (t : Table R) → names (keys_in t) ≡ false → row_at t k ≡ None
    unfolding row_at keys_in
    no_row_at [] e = refl
    no_row_at (x ∷ xs) e = grind (arith, no_row_at xs, absent_step, or_parts)

  -- ---- (*,G)

  module _ (s : State) (absent : names (fact_keys s) ≡ false) where
    no_group_records : IsAbsent (keys_in s.group_records)
    unfolding fact_keys
    no_group_records = grind (arith, first)

    no_downstream : IsAbsent (keys_in s.downstream)
    unfolding fact_keys
    no_downstream = grind (arith, second, first)

    not_joined : (i : ℕ) → joins_star s g i ≡ false
    unfolding joins_star has_row
    not_joined i = ap is_some (no_row_at (star_key i g) (eq-eqb g g refl) s.downstream no_downstream.absent)

    not_excluded : (i : ℕ) → is_exclude s g i ≡ false
    unfolding is_exclude is_exclude_among
    not_excluded i = grind (arith, no_row_at, eq-eqb, no_group_records)

    not_immediate : (i : ℕ) → immediate_olist_star s g i ≡ false
    unfolding immediate_olist_star pim_include_star
    not_immediate i = grind (arith, and_left, or_from, not_joined, and_right, not_excluded)

    pub absent_is_undesired : join_desired_star s g ≡ false
    unfolding join_desired_star is_empty
    absent_is_undesired = grind (arith, false_from_ne_true, none_passes, both_ways, not_immediate)

  -- ---- its sources

  sources_step : (k : Key) (ks : List Key) (b c : Bool) → (b || names ks) ≡ false
      → (names ks ≡ false → filter (λ k. is_of_group g k && is_some k.source) ks ≡ [])
      → cond (b && c) (k ∷ filter (λ k. is_of_group g k && is_some k.source) ks)
      (filter (λ k. is_of_group g k && is_some k.source) ks) ≡ []
  sources_step k ks b c e ih = grind arith

  no_source_keys : (ks : List Key) → names ks ≡ false → filter (λ k. is_of_group g k && is_some k.source) ks ≡ []
  no_source_keys [] e = refl
  no_source_keys (k ∷ ks) e = sources_step k ks (is_of_group g k) (is_some k.source) e (no_source_keys ks)

  pub no_sources : (ks : List Key) → names ks ≡ false → sources_of g ks ≡ []
  unfolding sources_of ascending
  no_sources ks e = ap (λ qs. ascending (map source_in qs)) (no_source_keys ks e)
