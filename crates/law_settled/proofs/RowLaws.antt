-- What is found at a key of a table that was changed.
use Rattle.std.{proofs.{Common.{◌≡◌, Bool, true, false, not, cond, ◌&&◌, ◌||◌, [], ◌∷◌, map, Option, Some, None, option_map, refl, sym, ap, ◌∙◌, subst, arith, rules}, Math.Bool.or_self_left, lemmas.{Bool.{both_ways, false_from_ne_true, or_left, or_right}, Map.{Entries.lookup-filter-keys, Made.is_some-lookup, Views.any-filter_same}}}, specs.{BTreeMap.{insert_entry, is_at}, List.{AllByRecursion, cons_option, list_any}, Ordering.{is_eq, match_ordering}, declared.cmp.Ordering.{Ordering, TheVariants.{Less, Equal, Greater}}}}
use Rattle.pim_types.{specs.{declared.fact.Key.Key, Keys.{key_cmp, same_key}}, proofs.Keys.{equal_keys, same_key_same}}
use Rattle.pim_model.{specs.Tables.{Table, change_row, changed_entry, drop_at, drop_where, has_row, put, row_at}}
use Rattle.law_settled.{proofs.{ListLaws.{any_among_all, each_member, each_more, or_swapped}, TableLaws.{any_of_changed, any_of_filter_map, any_of_map}}}

pub same_key_swap : (k q : Key) → same_key k q ≡ same_key q k
same_key_swap k q = go (same_key k q) (same_key q k) refl refl
  where
    go : (b c : Bool) → same_key k q ≡ b → same_key q k ≡ c → b ≡ c
    go true c e f = sym (sym f ∙ (ap (same_key q) (equal_keys k q e) ∙ same_key_same q))
    go false true e f = sym e ∙ (ap (same_key k) (equal_keys q k f) ∙ same_key_same k)
    go false false e f = refl

-- ---- a row that is put

module _ {R : Type 0} (k : Key) (r : R) where
  row_put_step : (x : Key × R) (xs : Table R) (o : Ordering) → key_cmp k x.0 ≡ o
      → row_at (insert_entry key_cmp xs k r) k ≡ Some r
      → row_at (match_ordering o ((k, r) ∷ x ∷ xs) ((x.0, r) ∷ xs) (x ∷ insert_entry key_cmp xs k r)) k ≡ Some r
  unfolding row_at
  row_put_step x xs o e ih = grind (arith, same_key_same)

  pub row_put : (t : Table R) → row_at (put t k r) k ≡ Some r
  unfolding put row_at
  row_put [] = rw (same_key_same k) refl
  row_put (x ∷ xs) = row_put_step x xs (key_cmp k x.0) refl (row_put xs)

  module _ (P : Key × R → Type 0) (new : P (k, r)) where
    each_put_step : (x : Key × R) (xs ys : Table R) (o : Ordering) → key_cmp k x.0 ≡ o → P x → AllByRecursion P xs
        → AllByRecursion P ys
        → AllByRecursion P (match_ordering o ((k, r) ∷ x ∷ xs) ((x.0, r) ∷ xs) (x ∷ ys))
    each_put_step x xs ys Less e h g f = (new, (h, g))
    each_put_step x xs ys Equal e h g f = (subst (λ (q : Key). P (q, r)) (equal_keys k x.0 (ap is_eq e)) new, g)
    each_put_step x xs ys Greater e h g f = (h, f)

    pub each_put : (t : Table R) → AllByRecursion P t → AllByRecursion P (put t k r)
    unfolding put
    each_put [] e = (new, tt)
    each_put (x ∷ xs) e = each_put_step x xs (put xs k r) (key_cmp k x.0) refl e.0 e.1 (each_put xs e.1)

  pub any_of_put : (q : Key × R → Bool) (t : Table R) → list_any q (put t k r) ≡ true
      → (q (k, r) || list_any q t) ≡ true
  any_of_put q t e =
      any_among_all (λ x. q x ≡ true → (q (k, r) || list_any q t) ≡ true) q (λ x f g. f g) (put t k r)
      (each_put _ (or_left (q (k, r)) (list_any q t)) t
      (each_more _ _ (λ x f g. or_right (q (k, r)) (list_any q t) (f g)) t (each_member q t))) e

  -- a test of keys
  module _ (test : Key → Bool) where
    any_put_step : (x : Key × R) (xs : Table R) (o : Ordering) → key_cmp k x.0 ≡ o
        → list_any (λ e. test e.0) (insert_entry key_cmp xs k r) ≡ (test k || list_any (λ e. test e.0) xs)
        → list_any (λ e. test e.0)
        (match_ordering o ((k, r) ∷ x ∷ xs) ((x.0, r) ∷ xs) (x ∷ insert_entry key_cmp xs k r))
        ≡ (test k || (test x.0 || list_any (λ e. test e.0) xs))
    any_put_step x xs o e ih = grind (arith, or_self_left, equal_keys, or_swapped)

    any_put : (t : Table R) → list_any (λ e. test e.0) (put t k r) ≡ (test k || list_any (λ e. test e.0) t)
    unfolding put
    any_put [] = refl
    any_put (x ∷ xs) = any_put_step x xs (key_cmp k x.0) refl (any_put xs)

-- ---- the keys that are there

module _ {R : Type 0} (k : Key) where
  -- an entry under the key
  abbrev is_at_key : Key × R → Bool
  is_at_key e = same_key k e.0

  pub has_row_any : (t : Table R) → has_row t k ≡ list_any is_at_key t
  unfolding has_row row_at
  has_row_any t = is_some-lookup (is_at (key_cmp k)) t ∙ any_of_map (same_key k) (λ e. e.0) t

  pub has_row_put : (q : Key) (r : R) (t : Table R) → has_row (put t q r) k ≡ (same_key k q || has_row t k)
  has_row_put q r t =
      has_row_any (put t q r) ∙ (any_put q r (same_key k) t ∙ ap (λ b. same_key k q || b) (sym (has_row_any t)))

  pub has_row_dropped : (test : Key → Bool) (t : Table R)
      → has_row (drop_where test t) k ≡ (not (test k) && has_row t k)
  unfolding drop_where
  has_row_dropped test t = grind (arith, has_row_any, any-filter_same, equal_keys)

  pub has_row_without : (q : Key) (t : Table R) → has_row (drop_at t q) k ≡ (not (same_key k q) && has_row t k)
  unfolding drop_at
  has_row_without q t = grind (arith, has_row_dropped, same_key_swap)

  pub has_row_map : (f : Key × R → Key × R) → ((e : Key × R) → (f e).0 ≡ e.0) → (t : Table R)
      → has_row (map f t) k ≡ has_row t k
  has_row_map f keys t = grind (arith, has_row_any, any_of_map)

  pub has_row_replaced : (r : R) (q : Key) (t : Table R) → has_row (change_row (λ old. Some r) q t) k ≡ has_row t k
  unfolding change_row changed_entry
  has_row_replaced r q t = grind (arith, has_row_any, any_of_filter_map)

  -- a key that isn't there isn't there where rows change
  pub still_absent : (change : R → Option R) (q : Key) (t : Table R) → has_row t k ≡ false
      → has_row (change_row change q t) k ≡ false
  still_absent change q t none = grind (arith, has_row_any, false_from_ne_true, both_ways, any_of_changed)

-- an entry whose row changes keeps its key
module _ {R : Type 0} (change : R → Option R) (k : Key) where
  changed_key_step : (x y : Key × R) (b : Bool) (o : Option R)
      → cond b (option_map (λ (r : R). let p : Key × R = (x.0, r) in p) o) (Some x) ≡ Some y → y.0 ≡ x.0
  changed_key_step x y b o e = grind arith

  pub changed_key : (x y : Key × R) → changed_entry change k x ≡ Some y → y.0 ≡ x.0
  unfolding changed_entry
  changed_key x y e = changed_key_step x y (same_key k x.0) (change x.1) e

-- ---- the row at another key

-- where rows are dropped by a test that the key doesn't pass
pub row_kept : {R : Type 0} (test : Key → Bool) (k : Key) → test k ≡ false → (t : Table R)
    → row_at (drop_where test t) k ≡ row_at t k
unfolding row_at drop_where
row_kept test k out t =
    lookup-filter-keys (is_at (key_cmp k)) (λ q. not (test q)) true
    (λ q e. ap (λ (p : Key). not (test p)) (sym (equal_keys k q e)) ∙ ap not out) t

differs : (k q : Key) → (k ≡ q → ⊥) → same_key k q ≡ false
differs k q apart = grind (arith, equal_keys)

-- where the row at another key is put, changed or dropped
module _ {R : Type 0} (k q : Key) (apart : k ≡ q → ⊥) where
  passed : (x : Key × R) (o : Option R) → k ≡ x.0 → cond (same_key q x.0) (Some x.1) o ≡ o
  passed x o e = rw (differs q x.0 (λ f. apart (e ∙ sym f))) refl

  put_away_step : (r : R) (x : Key × R) (xs ys : Table R) (o : Ordering) → key_cmp k x.0 ≡ o → row_at ys q ≡ row_at xs q
      → row_at (match_ordering o ((k, r) ∷ x ∷ xs) ((x.0, r) ∷ xs) (x ∷ ys)) q ≡ row_at (x ∷ xs) q
  unfolding row_at
  put_away_step r x xs ys o e ih = grind (arith, passed, equal_keys)

  pub row_put_away : (r : R) (t : Table R) → row_at (put t k r) q ≡ row_at t q
  unfolding row_at put
  row_put_away r [] = passed (k, r) None refl
  row_put_away r (x ∷ xs) = put_away_step r x xs (insert_entry key_cmp xs k r) (key_cmp k x.0) refl (row_put_away r xs)

  change_away_step : (x : Key × R) (xs ys : Table R) (b : Bool) (o : Option R) → same_key k x.0 ≡ b
      → row_at ys q ≡ row_at xs q
      → row_at (cons_option (cond b (option_map (λ (r : R). let p : Key × R = (x.0, r) in p) o) (Some x)) ys) q
      ≡ row_at (x ∷ xs) q
  unfolding row_at
  change_away_step x xs ys b o e ih = grind (arith, passed, equal_keys)

  pub row_change_away : (change : R → Option R) (t : Table R) → row_at (change_row change k t) q ≡ row_at t q
  unfolding row_at change_row changed_entry
  row_change_away change [] = refl
  row_change_away change (x ∷ xs) = search (rules, row_change_away change xs, change_away_step)

  pub row_drop_away : (t : Table R) → row_at (drop_at t k) q ≡ row_at t q
  unfolding drop_at
  row_drop_away t = row_kept (same_key k) q (differs k q apart) t
