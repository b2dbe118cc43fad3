-- Tables whose rows are the same but for ends are cut down alike, and so are tables in order that have such rows under
-- each key that is seen.
use Rattle.std.{proofs.Common.{◌≡◌, Bool, true, false, ◌&&◌, cond, [], ◌∷◌, map, Option, Some, None, is_some, option_map, refl, sym, ap, ◌∙◌, arith}, specs.{Cmp.{first_so, second_so}, List.Sorted.IsStrictlySortedBy, Ordering.is_eq, declared.cmp.Ordering.{Ordering, TheVariants.{Less, Equal, Greater}}}}
use Rattle.pim_types.{specs.{declared.fact.Key.Key, Keys.{key_cmp, same_key}}, proofs.Keys.{equal_keys, key_cmp_total, same_key_same}}
use Rattle.pim_model.{specs.{Rows.{same_both, same_rows}, Tables.{Table, has_row, keys_in, row_at, rows_where}}}
use Rattle.law_settled.{proofs.RisingKeys.{sorted_of_up, up_filter, up_of_sorted}, specs.Ready.Rises}
use Rattle.law_events.{specs.Differing.same_at, proofs.{OwnKeys.{all_later, none_below}, Rows.{cut_entry, row_at_cut, row_in_scope, rows_where_cut}, SameRows.IsOfCut}}

module _ {R : Type 0} (same : R → R → Bool) (cut : R → R) (is : IsOfCut same cut) where
  -- ---- row by row

  rows_alike : (t u : Table R) → same_rows same t u ≡ true → map (cut_entry cut) t ≡ map (cut_entry cut) u
  unfolding same_rows
  rows_alike [] [] e = refl
  rows_alike [] (y ∷ ys) e = cc
  rows_alike (x ∷ xs) [] e = cc
  rows_alike (x ∷ xs) (y ∷ ys) e =
      let heads : (same_key x.0 y.0 && same x.1 y.1) ≡ true = first_so _ (same_rows same xs ys) e in
      let keys : x.0 ≡ y.0 = equal_keys x.0 y.0 (first_so (same_key x.0 y.0) (same x.1 y.1) heads) in
      let rows : cut x.1 ≡ cut y.1 = is.alike x.1 y.1 (second_so (same_key x.0 y.0) (same x.1 y.1) heads) in
      let rest : map (cut_entry cut) xs ≡ map (cut_entry cut) ys =
      rows_alike xs ys (second_so (same_key x.0 y.0 && same x.1 y.1) (same_rows same xs ys) e) in
      λ j. (keys j, rows j) ∷ rest j

  pub seen_alike : (sees : Key → Bool) (t u : Table R) → same_rows same t u ≡ true
      → map (cut_entry cut) (rows_where sees t) ≡ map (cut_entry cut) (rows_where sees u)
  seen_alike sees t u e =
      sym (rows_where_cut cut sees t) ∙ (ap (rows_where sees) (rows_alike t u e) ∙ rows_where_cut cut sees u)

  -- ---- key by key, in tables in order

  pub both_there : (a b : Option R) → same_both same a b ≡ true → is_some a ≡ is_some b
  both_there a b e = grind arith

  here : (k : Key) (r : R) (o : Option R) → cond (same_key k k) (Some r) o ≡ Some r
  here k r o = ap (λ (b : Bool). cond b (Some r) o) (same_key_same k)

  tail_step : (a b : R) (p q : Option R) (c d : Bool) → c ≡ d → (c ≡ true → is_some p ≡ false)
      → (c ≡ true → is_some q ≡ false) → same_both same (cond c (Some a) p) (cond d (Some b) q) ≡ true
      → same_both same p q ≡ true
  tail_step a b p q c d s f g e = grind arith

  abbrev FoundAlike : Table R → Table R → Type 0
  FoundAlike t u = (k : Key) → same_both same (row_at t k) (row_at u k) ≡ true

  heads_step : (x y : Key × R) (xs ys : Table R) (o : Ordering) → key_cmp x.0 y.0 ≡ o
      → Rises (x ∷ xs) → Rises (y ∷ ys) → FoundAlike (x ∷ xs) (y ∷ ys)
      → (FoundAlike xs ys → map (cut_entry cut) xs ≡ map (cut_entry cut) ys)
      → map (cut_entry cut) (x ∷ xs) ≡ map (cut_entry cut) (y ∷ ys)
  unfolding row_at has_row keys_in IsStrictlySortedBy
  heads_step x y xs ys Less o up above found ih = grind (arith, none_below, all_later, here, both_there)
  heads_step x y xs ys Greater o up above found ih =
      grind (arith, key_cmp_total, none_below, all_later, here, both_there)
  heads_step x y xs ys Equal o up above found ih =
      let keys : x.0 ≡ y.0 = equal_keys x.0 y.0 (ap is_eq o) in
      let first : row_at (x ∷ xs) x.0 ≡ Some x.1 = here x.0 x.1 (row_at xs x.0) in
      let second : row_at (y ∷ ys) x.0 ≡ Some y.1 = ap (row_at (y ∷ ys)) keys ∙ here y.0 y.1 (row_at ys y.0) in
      let rows : same x.1 y.1 ≡ true = (λ j. same_both same (sym first j) (sym second j)) ∙ found x.0 in
      let same_place : (k : Key) → same_key k x.0 ≡ same_key k y.0 = λ k. ap (same_key k) keys in
      let absent : (k : Key) → same_key k x.0 ≡ true → is_some (row_at xs k) ≡ false =
      λ k e. ap (λ (q : Key). is_some (row_at xs q)) (equal_keys k x.0 e) ∙ none_below x.0 xs up.0 in
      let absent_too : (k : Key) → same_key k x.0 ≡ true → is_some (row_at ys k) ≡ false =
      λ k e. ap (λ (q : Key). is_some (row_at ys q)) (equal_keys k x.0 e ∙ keys) ∙ none_below y.0 ys above.0 in
      let rest : map (cut_entry cut) xs ≡ map (cut_entry cut) ys =
      ih (λ k. tail_step x.1 y.1 (row_at xs k) (row_at ys k) (same_key k x.0) (same_key k y.0) (same_place k) (absent k)
      (absent_too k) (found k)) in
      λ j. (keys j, is.alike x.1 y.1 rows j) ∷ rest j

  found_alike : (t u : Table R) → Rises t → Rises u → FoundAlike t u → map (cut_entry cut) t ≡ map (cut_entry cut) u
  unfolding row_at keys_in IsStrictlySortedBy
  found_alike [] [] up above found = refl
  found_alike [] (y ∷ ys) up above found =
      let some : row_at (y ∷ ys) y.0 ≡ Some y.1 = here y.0 y.1 (row_at ys y.0) in
      cc (sym (ap (λ (p : Option R). is_some p) some) ∙ sym (both_there None (row_at (y ∷ ys) y.0) (found y.0)))
  found_alike (x ∷ xs) [] up above found =
      let some : row_at (x ∷ xs) x.0 ≡ Some x.1 = here x.0 x.1 (row_at xs x.0) in
      cc (sym (ap (λ (p : Option R). is_some p) some) ∙ both_there (row_at (x ∷ xs) x.0) None (found x.0))
  found_alike (x ∷ xs) (y ∷ ys) up above found =
      heads_step x y xs ys (key_cmp x.0 y.0) refl up above found (found_alike xs ys up.1 above.1)

  seen_step : (sees : Key → Bool) (x : Key × R) (xs : Table R) (k : Key) (b : Bool) → sees k ≡ false → sees x.0 ≡ b
      → row_at (rows_where sees xs) k ≡ None
      → row_at (cond b (x ∷ rows_where sees xs) (rows_where sees xs)) k ≡ None
  unfolding row_at
  seen_step sees x xs k b out in_ ih = grind (arith, equal_keys)

  unseen_none : (sees : Key → Bool) (k : Key) → sees k ≡ false → (t : Table R) → row_at (rows_where sees t) k ≡ None
  unfolding row_at rows_where
  unseen_none sees k out [] = refl
  unseen_none sees k out (x ∷ xs) = seen_step sees x xs k (sees x.0) out refl (unseen_none sees k out xs)

  rises_where : (sees : Key → Bool) (t : Table R) → Rises t → Rises (rows_where sees t)
  unfolding rows_where
  rises_where sees t e = sorted_of_up _ (up_filter (λ x. sees x.0) t (up_of_sorted t e))

  pub seen_found_alike : (sees : Key → Bool) (t u : Table R) → Rises t → Rises u
      → ((k : Key) → sees k ≡ true → same_at same k t u ≡ true)
      → map (cut_entry cut) (rows_where sees t) ≡ map (cut_entry cut) (rows_where sees u)
  seen_found_alike sees t u up above found = grind (arith, found_alike, rises_where, row_in_scope, unseen_none)

  -- ---- and back

  options_same : (a b : Option R) → option_map cut a ≡ option_map cut b → same_both same a b ≡ true
  options_same a b e = grind arith

  row_cut : (sees : Key → Bool) (k : Key) → sees k ≡ true → (t : Table R)
      → row_at (map (cut_entry cut) (rows_where sees t)) k ≡ option_map cut (row_at t k)
  row_cut sees k seen t = grind (arith, row_at_cut, row_in_scope)

  pub same_where_alike : (sees : Key → Bool) (k : Key) → sees k ≡ true → (t u : Table R)
      → map (cut_entry cut) (rows_where sees t) ≡ map (cut_entry cut) (rows_where sees u)
      → same_at same k t u ≡ true
  same_where_alike sees k seen t u e =
      options_same (row_at t k) (row_at u k)
      (sym (row_cut sees k seen t) ∙ (ap (λ (x : Table R). row_at x k) e ∙ row_cut sees k seen u))
