-- What is found in a table that was changed.
use Rattle.std.{proofs.{Common.{◌≡◌, ℕ, ◌||◌, Bool, true, false, cond, not, [], ◌∷◌, ◌++◌, map, Option, Some, None, is_some, refl, sym, ap, subst, ◌∙◌}, lemmas.{Bool.true≢false, Map.{lookup-none, Entries.{lookup-filter-keys, none_below_head}}}}, specs.{Cmp.eq_by_cmp_equiv, List.Sorted.IsStrictlySortedBy, Map.{lookup, set_value}, BTreeMap.{insert_entry, is_at}, Option.IfSome, Prelude.{Err, IsOk, Ok, OnErr, Result}, Ordering.{is_eq, match_ordering}, declared.cmp.Ordering.{Ordering, TheVariants.{Less, Equal, Greater}}}}
use Rattle.pim_types.{specs.{declared.{fact.Key.Key, timer.TimerKind.TimerKind}, Keys.{is_on, key_cmp, same_key}}, proofs.Keys.{equal_keys, key_cmp_total, same_key_same}}
use Rattle.pim_model.{specs.Tables.{Table, change_row, drop_at, drop_where, has_row, keys_in, put, row_at}}
use Rattle.pim_tables.{specs.Ends.{DifferAt, left_at}, proofs.Rows.{absent_is_unchanged, dropped_is_changed, written_is_changed}}

pub same_key_symm : (k q : Key) → same_key k q ≡ same_key q k
same_key_symm = (eq_by_cmp_equiv key_cmp_total).symm

-- two keys that are the same as a third
same_as_both : (q k e : Key) → same_key q e ≡ true → same_key q k ≡ true → same_key k e ≡ true
same_as_both q k e a b = subst (λ (x : Key). same_key x e ≡ true) (equal_keys q k b) a

module _ {X : Type 0} where
  twice : (b : Bool) (x y rest : X) → cond b x rest ≡ cond b x (cond b y rest)
  twice true x y rest = refl
  twice false x y rest = refl

  swapped : (a b : Bool) (x y rest : X) → (a ≡ true → b ≡ true → ⊥)
      → cond a x (cond b y rest) ≡ cond b y (cond a x rest)
  swapped true true x y rest apart = absurd (apart refl refl)
  swapped true false x y rest apart = refl
  swapped false true x y rest apart = refl
  swapped false false x y rest apart = refl

  turned : (b : Bool) (x y : X) → cond (not b) x y ≡ cond b y x
  turned true x y = refl
  turned false x y = refl

module _ {R : Type 0} (k q : Key) where
  abbrev found : Table R → Option R
  found t = lookup (is_at (key_cmp q)) t

  put_step : (r : R) (e : Key × R) (t : Table R) (o : Ordering) → key_cmp k e.0 ≡ o
      → found (insert_entry key_cmp t k r) ≡ cond (same_key q k) (Some r) (found t)
      → found (match_ordering o ((k, r) ∷ e ∷ t) ((e.0, r) ∷ t) (e ∷ insert_entry key_cmp t k r))
      ≡ cond (same_key q k) (Some r) (found (e ∷ t))
  put_step r e t Less is later = refl
  put_step r e t Equal is later =
      twice (same_key q e.0) (Some r) (Some e.1) (found t)
      ∙ ap (λ (x : Key). cond (same_key q x) (Some r) (found (e ∷ t))) (sym (equal_keys k e.0 (ap is_eq is)))
  put_step r e t Greater is later =
      ap (λ (o : Option R). cond (same_key q e.0) (Some e.1) o) later
      ∙ swapped (same_key q e.0) (same_key q k) (Some e.1) (Some r) (found t)
      (λ a b. let same : is_eq Greater ≡ true = ap is_eq (sym is) ∙ same_as_both q k e.0 a b in cc)

  pub row_at-put : (t : Table R) (r : R) → row_at (put t k r) q ≡ cond (same_key q k) (Some r) (row_at t q)
  unfolding row_at put
  row_at-put [] r = refl
  row_at-put (e ∷ t) r = put_step r e t (key_cmp k e.0) refl (row_at-put t r)

  pub row_at-drop_at : (t : Table R) → row_at (drop_at t k) q ≡ cond (same_key q k) None (row_at t q)
  unfolding row_at drop_at drop_where
  row_at-drop_at t =
      lookup-filter-keys (is_at (key_cmp q)) (λ e. not (same_key k e)) (not (same_key q k))
      (λ e is. ap not (same_key_symm k e ∙ ap (λ (x : Key). same_key x k) (sym (equal_keys q e is)))) t
      ∙ turned (same_key q k) (found t) None

pub row_at-drop_on : {R : Type 0} (i : ℕ) (q : Key) (t : Table R)
    → row_at (drop_where (is_on i) t) q ≡ cond (is_on i q) None (row_at t q)
unfolding row_at drop_where
row_at-drop_on i q t =
    lookup-filter-keys (is_at (key_cmp q)) (λ e. not (is_on i e)) (not (is_on i q))
    (λ e is. ap (λ (x : Key). not (is_on i x)) (sym (equal_keys q e is))) t
    ∙ turned (is_on i q) (lookup (is_at (key_cmp q)) t) None

-- what is put under a key that is there stands in its place
module _ {R : Type 0} (k : Key) (row : R) where
  place_step : (e : Key × R) (t : Table R) (o : Ordering) → key_cmp k e.0 ≡ o
      → IsStrictlySortedBy key_cmp (map (λ e. e.0) (e ∷ t))
      → is_some (cond (is_eq o) (Some e.1) (lookup (is_at (key_cmp k)) t)) ≡ true
      → (is_some (lookup (is_at (key_cmp k)) t) ≡ true
      → insert_entry key_cmp t k row ≡ set_value (is_at (key_cmp k)) t row)
      → match_ordering o ((k, row) ∷ e ∷ t) ((e.0, row) ∷ t) (e ∷ insert_entry key_cmp t k row)
      ≡ cond (is_eq o) ((e.0, row) ∷ t) (e ∷ set_value (is_at (key_cmp k)) t row)
  place_step e t Less is sorted there later =
      let none : lookup (is_at (key_cmp k)) t ≡ None =
      lookup-none (is_at (key_cmp k)) t (none_below_head key_cmp_total k e t sorted is).1 in
      absurd (true≢false (sym there ∙ ap is_some none))
  place_step e t Equal is sorted there later = refl
  place_step e t Greater is sorted there later = ap (λ u. e ∷ u) (later there)

  in_place : (t : Table R) → IsStrictlySortedBy key_cmp (map (λ e. e.0) t)
      → is_some (lookup (is_at (key_cmp k)) t) ≡ true
      → insert_entry key_cmp t k row ≡ set_value (is_at (key_cmp k)) t row
  unfolding IsStrictlySortedBy
  in_place [] sorted there = cc
  in_place (e ∷ t) sorted there = place_step e t (key_cmp k e.0) refl sorted there (in_place t sorted.1)

  pub put_is_changed : (change : R → Option R) (t : Table R) → IsStrictlySortedBy key_cmp (keys_in t)
      → has_row t k ≡ true → IfSome (row_at t k) (λ before. change before ≡ Some row)
      → put t k row ≡ change_row change k t
  unfolding put keys_in has_row row_at
  put_is_changed change t sorted there is = in_place t sorted there ∙ written_is_changed k change row t sorted is

pub absent : {R : Type 0} (k : Key) (t : Table R) → has_row t k ≡ false → lookup (is_at (key_cmp k)) t ≡ None
unfolding has_row row_at
absent k t e = go (lookup (is_at (key_cmp k)) t) e
  where
    go : {X : Type 0} (o : Option X) → is_some o ≡ false → o ≡ None
    go None e = refl
    go (Some x) e = cc

-- a call that is refused only where there is no row
pub none_there : {T E R : Type 0} (r : Result T E) (t : Table R) (k : Key) → (has_row t k ≡ true → IsOk r)
    → OnErr r (row_at t k ≡ None)
unfolding row_at
none_there (Ok x) t k over = tt
none_there (Err e) t k over = absent k t (go (has_row t k) refl)
  where
    go : (b : Bool) → has_row t k ≡ b → b ≡ false
    go true is = cc (over is)
    go false is = refl

-- a row after the others
module _ {R : Type 0} (q k : Key) (r : R) where
  last_step : (e : Key × R) (xs : Table R) (b : Bool) → has_row (xs ++ (k, r) ∷ []) q ≡ (has_row xs q || same_key q k)
      → is_some (cond b (Some e.1) (row_at (xs ++ (k, r) ∷ []) q))
      ≡ (is_some (cond b (Some e.1) (row_at xs q)) || same_key q k)
  unfolding has_row
  last_step e xs true later = refl
  last_step e xs false later = later

  pub has_row-last : (xs : Table R) → has_row (xs ++ (k, r) ∷ []) q ≡ (has_row xs q || same_key q k)
  unfolding has_row row_at
  has_row-last [] = only (same_key q k)
    where
      only : (b : Bool) → is_some (cond b (Some r) None) ≡ b
      only true = refl
      only false = refl
  has_row-last (e ∷ xs) = last_step e xs (same_key q e.0) (has_row-last xs)

-- ---- a row that was refused

module _ {R : Type 0} (k : Key) where
  pub none_goes : (t : Table R) → row_at t k ≡ None → drop_at t k ≡ t
  unfolding row_at
  none_goes t none = dropped_is_changed k t ∙ sym (absent_is_unchanged k (λ _. None) t none)

  gone : (t : Table R) → row_at (drop_at t k) k ≡ None
  gone t = row_at-drop_at k k t ∙ ap (λ (b : Bool). cond b None (row_at t k)) (same_key_same k)

  -- where no row is there, none goes
  pub absent_is_left : (second : Option TimerKind) (t : Table R) → row_at t k ≡ None → t ≡ left_at second t k
  absent_is_left None t none = refl
  absent_is_left (Some kind) t none = sym (none_goes t none)

  -- a table differs from itself at no key
  pub as_it_is : (t : Table R) (w : Option R) → row_at t k ≡ w → DifferAt t t k w
  as_it_is t w is q = go (same_key q k) refl
    where
      go : (b : Bool) → same_key q k ≡ b → row_at t q ≡ cond b w (row_at t q)
      go true same = ap (λ (x : Key). row_at t x) (equal_keys q k same) ∙ is
      go false other = refl

  -- what may be left goes too
  pub left_is_dropped : (second : Option TimerKind) (t : Table R) → drop_at (left_at second t k) k ≡ drop_at t k
  left_is_dropped None t = refl
  left_is_dropped (Some kind) t = none_goes (drop_at t k) (gone t)
