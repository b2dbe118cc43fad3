-- Tables whose keys rise, and what holds of each entry, through what changes a table.
use Rattle.std.{proofs.Common.{◌≡◌, Bool, cond, [], ◌∷◌, map, Option, Some, None, refl, ap, ◌∙◌, arith}, specs.{List.{filter, filter_map, cons_option, AllByRecursion, Sorted.IsStrictlySortedBy}, BTreeMap.insert_entry, Ordering.match_ordering, declared.cmp.Ordering.{Ordering, TheVariants.Less}}}
use Rattle.pim_types.{specs.{declared.fact.Key.Key, Keys.key_cmp}, proofs.Keys.key_cmp_total}
use Rattle.pim_model.{specs.Tables.{Table, keys_in, put}}
use Rattle.law_settled.{proofs.{RowLaws.each_put, ListLaws.{each_filter, each_filter_map, each_map, each_more}}}

-- ---- keys that rise

abbrev pub IsBelow : {R : Type 0} → Key → Key × R → Type 0
IsBelow k e = key_cmp k e.0 ≡ Less

module _ {R : Type 0} where
  abbrev pub Up : Table R → Type 0
  Up [] = Unit {0}
  Up (x ∷ xs) = AllByRecursion (IsBelow x.0) xs × Up xs

  keys_above : (k : Key) (t : Table R) → AllByRecursion (λ q. key_cmp k q ≡ Less) (keys_in t)
      → AllByRecursion (IsBelow k) t
  unfolding keys_in
  keys_above k [] e = tt
  keys_above k (x ∷ xs) e = (e.0, keys_above k xs e.1)

  above_keys : (k : Key) (t : Table R) → AllByRecursion (IsBelow k) t
      → AllByRecursion (λ q. key_cmp k q ≡ Less) (keys_in t)
  unfolding keys_in
  above_keys k [] e = tt
  above_keys k (x ∷ xs) e = (e.0, above_keys k xs e.1)

  pub up_of_sorted : (t : Table R) → IsStrictlySortedBy key_cmp (keys_in t) → Up t
  unfolding keys_in IsStrictlySortedBy
  up_of_sorted [] e = tt
  up_of_sorted (x ∷ xs) e = (keys_above x.0 xs e.0, up_of_sorted xs e.1)

  pub sorted_of_up : (t : Table R) → Up t → IsStrictlySortedBy key_cmp (keys_in t)
  unfolding keys_in IsStrictlySortedBy
  sorted_of_up [] e = tt
  sorted_of_up (x ∷ xs) e = (above_keys x.0 xs e.0, sorted_of_up xs e.1)

  up_cond : (x : Key × R) (ys : Table R) (b : Bool) → AllByRecursion (IsBelow x.0) ys → Up ys → Up (cond b (x ∷ ys) ys)
  up_cond x ys b h e = grind arith

  pub up_filter : (test : Key × R → Bool) (t : Table R) → Up t → Up (filter test t)
  up_filter test [] e = tt
  up_filter test (x ∷ xs) e = grind (arith, up_filter test xs e.1, up_cond, each_filter)

below_same : (a b c d : Key) → b ≡ a → d ≡ c → key_cmp a c ≡ Less → key_cmp b d ≡ Less
below_same a b c d e f h = ap (λ q. key_cmp q d) e ∙ (ap (λ q. key_cmp a q) f ∙ h)

module _ {R : Type 0} (h : Key × R → Option (Key × R)) (keys : (x y : Key × R) → h x ≡ Some y → y.0 ≡ x.0) where
  up_option : (x : Key × R) (xs : Table R) (o : Option (Key × R)) → h x ≡ o → AllByRecursion (IsBelow x.0) xs
      → Up (filter_map h xs)
      → Up (cons_option o (filter_map h xs))
  up_option x xs None e above up = up
  up_option x xs (Some y) e above up = (
    each_filter_map (IsBelow x.0) (IsBelow y.0) h (λ z w f g. below_same x.0 y.0 z.0 w.0 (keys x y e) (keys z w f) g)
        xs above,
    up,
  )

  pub up_filter_map : (t : Table R) → Up t → Up (filter_map h t)
  up_filter_map [] e = tt
  up_filter_map (x ∷ xs) e = up_option x xs (h x) refl e.0 (up_filter_map xs e.1)

pub up_map : {R : Type 0} (f : Key × R → Key × R) → ((e : Key × R) → (f e).0 ≡ e.0) → (t : Table R) → Up t
    → Up (map f t)
up_map f keys [] e = tt
up_map f keys (x ∷ xs) e = (
  each_map (IsBelow x.0) (IsBelow (f x).0) f (λ z g. below_same x.0 (f x).0 z.0 (f z).0 (keys x) (keys z) g) xs e.0,
  up_map f keys xs e.1,
)

module _ {R : Type 0} (k : Key) (r : R) where
  up_put_step : (x : Key × R) (xs : Table R) (o : Ordering) → key_cmp k x.0 ≡ o → AllByRecursion (IsBelow x.0) xs
      → Up xs
      → Up (insert_entry key_cmp xs k r)
      → Up (match_ordering o ((k, r) ∷ x ∷ xs) ((x.0, r) ∷ xs) (x ∷ insert_entry key_cmp xs k r))
  unfolding put
  up_put_step x xs o e above up ih = grind (arith, each_more, key_cmp_total, each_put)

  pub up_put : (t : Table R) → Up t → Up (put t k r)
  unfolding put
  up_put [] e = (tt, tt)
  up_put (x ∷ xs) e = up_put_step x xs (key_cmp k x.0) refl e.0 e.1 (up_put xs e.1)
