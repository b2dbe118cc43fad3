-- Tables whose keys rise: a row that is put keeps them so, and they are told by the row at each key.
use Rattle.std.{proofs.Common.{◌≡◌, Bool, true, false, cond, [], ◌∷◌, Some, None, refl, sym, ap, ◌∙◌}, specs.{List.{AllByRecursion, filter, Sorted.IsStrictlySortedBy}, Ordering.{is_eq, match_ordering, ordering_reverse}, declared.cmp.Ordering.{Ordering, TheVariants.{Less, Equal, Greater}}}}
use Rattle.pim_types.{specs.{declared.fact.Key.Key, Keys.{key_cmp, same_key}}, proofs.Keys.{equal_keys, key_cmp_total, same_key_same}}
use Rattle.pim_model.{specs.Tables.{Table, keys_in, put, row_at}}
use Rattle.law_settled.{proofs.{ListLaws.{each_filter, each_more}, RowLaws.each_put}}

reversed : (k q : Key) → key_cmp k q ≡ Greater → key_cmp q k ≡ Less
reversed k q e = key_cmp_total.antisymm q k ∙ ap ordering_reverse e

module _ {R : Type 0} where
  -- all keys are above this one
  abbrev pub Above : Key → Table R → Type 0
  Above k t = AllByRecursion (λ (e : Key × R). key_cmp k e.0 ≡ Less) t

  abbrev pub Up : Table R → Type 0
  Up [] = Unit {0}
  Up (e ∷ t) = Above e.0 t × Up t

  above_of : (k : Key) (t : Table R) → AllByRecursion (λ q. key_cmp k q ≡ Less) (keys_in t) → Above k t
  unfolding keys_in
  above_of k [] a = tt
  above_of k (e ∷ t) a = (a.0, above_of k t a.1)

  pub up_of_sorted : (t : Table R) → IsStrictlySortedBy key_cmp (keys_in t) → Up t
  unfolding keys_in IsStrictlySortedBy
  up_of_sorted [] e = tt
  up_of_sorted (x ∷ xs) e = (above_of x.0 xs e.0, up_of_sorted xs e.1)

  keys_above : (k : Key) (t : Table R) → Above k t → AllByRecursion (λ q. key_cmp k q ≡ Less) (keys_in t)
  unfolding keys_in
  keys_above k [] a = tt
  keys_above k (e ∷ t) a = (a.0, keys_above k t a.1)

  pub sorted_of_up : (t : Table R) → Up t → IsStrictlySortedBy key_cmp (keys_in t)
  unfolding keys_in IsStrictlySortedBy
  sorted_of_up [] up = tt
  sorted_of_up (x ∷ xs) up = (keys_above x.0 xs up.0, sorted_of_up xs up.1)

  above_both : (k q : Key) (t : Table R) → key_cmp k q ≡ Less → Above q t → Above k t
  above_both k q t less =
      each_more (λ (e : Key × R). key_cmp q e.0 ≡ Less) (λ (e : Key × R). key_cmp k e.0 ≡ Less)
      (λ e f. key_cmp_total.trans k q e.0 less f) t

  -- ---- rows that are dropped or put

  filter_step : (test : Key × R → Bool) (e : Key × R) (t : Table R) (b : Bool) → Above e.0 t → Up (filter test t)
      → Up (cond b (e ∷ filter test t) (filter test t))
  filter_step test e t true above up = (each_filter (λ (x : Key × R). key_cmp e.0 x.0 ≡ Less) test t above, up)
  filter_step test e t false above up = up

  pub up_filtered : (test : Key × R → Bool) (t : Table R) → Up t → Up (filter test t)
  up_filtered test [] up = tt
  up_filtered test (e ∷ t) up = filter_step test e t (test e) up.0 (up_filtered test t up.1)

  put_step : (k : Key) (r : R) (e : Key × R) (t : Table R) (o : Ordering) → key_cmp k e.0 ≡ o → Above e.0 t → Up t
      → Up (put t k r)
      → Up (match_ordering o ((k, r) ∷ e ∷ t) ((e.0, r) ∷ t) (e ∷ put t k r))
  put_step k r e t Less is above up rest = ((is, above_both k e.0 t is above), (above, up))
  put_step k r e t Equal is above up rest = (above, up)
  put_step k r e t Greater is above up rest =
      (each_put k r (λ (x : Key × R). key_cmp e.0 x.0 ≡ Less) (reversed k e.0 is) t above, rest)

  pub up_put : (k : Key) (r : R) (t : Table R) → Up t → Up (put t k r)
  unfolding put
  up_put k r [] up = (tt, tt)
  up_put k r (e ∷ t) up = put_step k r e t (key_cmp k e.0) refl up.0 up.1 (up_put k r t up.1)

  -- ---- told by their rows

  pub none_above : (k : Key) (t : Table R) → Above k t → row_at t k ≡ None
  unfolding row_at
  none_above k [] above = refl
  none_above k (e ∷ t) above = rw above.0 (none_above k t above.1)

  pub head_row : (e : Key × R) (t : Table R) → row_at (e ∷ t) e.0 ≡ Some e.1
  unfolding row_at
  head_row e t = rw (same_key_same e.0) refl

  later_row : (q : Key) (e d : Key × R) (t u : Table R) (b : Bool) → same_key q e.0 ≡ b → e.0 ≡ d.0 → Above e.0 t
      → Above d.0 u → row_at (e ∷ t) q ≡ row_at (d ∷ u) q → row_at t q ≡ row_at u q
  unfolding row_at
  later_row q e d t u true is keys above above' same =
      let key : q ≡ e.0 = equal_keys q e.0 is in
      ap (row_at t) key ∙ none_above e.0 t above
      ∙ sym (ap (row_at u) (key ∙ keys) ∙ none_above d.0 u above')
  later_row q e d t u false is keys above above' same =
      let isnt : same_key q d.0 ≡ false = ap (λ (k : Key). same_key q k) (sym keys) ∙ is in
      sym (λ j. cond (is j) (Some e.1) (row_at t q)) ∙ same ∙ (λ j. cond (isnt j) (Some d.1) (row_at u q))

  some_same : (a b : R) → Some a ≡ Some b → a ≡ b
  some_same a b e = cc

  firsts : (e d : Key × R) (t u : Table R) → Up (e ∷ t) → Up (d ∷ u)
      → ((q : Key) → row_at (e ∷ t) q ≡ row_at (d ∷ u) q) → (o : Ordering) → key_cmp e.0 d.0 ≡ o → o ≡ Equal
  firsts e d t u up up' same Less is =
      let no : Some e.1 ≡ None =
      sym (head_row e t) ∙ same e.0 ∙ none_above e.0 (d ∷ u) (is, above_both e.0 d.0 u is up'.0) in cc
  firsts e d t u up up' same Equal is = refl
  firsts e d t u up up' same Greater is =
      let less : key_cmp d.0 e.0 ≡ Less = reversed e.0 d.0 is in
      let no : Some d.1 ≡ None =
      sym (head_row d u) ∙ sym (same d.0) ∙ none_above d.0 (e ∷ t) (less, above_both d.0 e.0 t less up.0) in cc

  pub same_rows : (t u : Table R) → Up t → Up u → ((q : Key) → row_at t q ≡ row_at u q) → t ≡ u
  unfolding row_at
  same_rows [] [] up up' same = refl
  same_rows [] (d ∷ u) up up' same = let no : None ≡ Some d.1 = same d.0 ∙ head_row d u in cc
  same_rows (e ∷ t) [] up up' same = let no : Some e.1 ≡ None = sym (head_row e t) ∙ same e.0 in cc
  same_rows (e ∷ t) (d ∷ u) up up' same =
      let keys : e.0 ≡ d.0 =
      equal_keys e.0 d.0 (ap is_eq (firsts e d t u up up' same (key_cmp e.0 d.0) refl)) in
      let rows : e.1 ≡ d.1 =
      some_same e.1 d.1 (sym (head_row e t) ∙ same e.0 ∙ ap (row_at (d ∷ u)) keys ∙ head_row d u) in
      let rest : t ≡ u =
      same_rows t u up.1 up'.1 (λ q. later_row q e d t u (same_key q e.0) refl keys up.0 up'.0 (same q)) in
      λ j. (keys j, rows j) ∷ rest j
