-- Tables whose keys are listed once: each entry is the row that is found at its key. A row put twice is put once, and
-- one put where it is changes nothing.
use Rattle.std.{proofs.Common.{◌≡◌, Bool, true, false, cond, [], ◌∷◌, Some, refl, ap, sym, arith}, specs.{BTreeMap.insert_entry, declared.cmp.Ordering.{Ordering, TheVariants.{Equal, Greater, Less}}, List.{AllByRecursion, Sorted.IsStrictlySortedBy}, Ordering.{is_eq, match_ordering}}}
use Rattle.pim_types.{specs.{declared.fact.Key.Key, Keys.{key_cmp, same_key}}, proofs.Keys.{equal_keys, same_key_same}}
use Rattle.pim_model.{specs.Tables.{Table, has_row, keys_in, put, row_at}}
use Rattle.law_settled.{proofs.ListLaws.each_more}
use Rattle.law_events.{specs.Locality.AreOnce, proofs.OwnKeys.{all_later, none_below, once_where_sorted}}

equal_of : (o : Ordering) → is_eq o ≡ true → o ≡ Equal
equal_of o e = grind arith

module _ {R : Type 0} (k : Key) (old row : R) where
  twice_step : (x : Key × R) (xs : Table R) (o : Ordering) → key_cmp k x.0 ≡ o → key_cmp k k ≡ Equal
      → insert_entry key_cmp (insert_entry key_cmp xs k old) k row ≡ insert_entry key_cmp xs k row
      → insert_entry key_cmp (match_ordering o ((k, old) ∷ x ∷ xs) ((x.0, old) ∷ xs) (x ∷ insert_entry key_cmp xs k old))
      k row
      ≡ match_ordering o ((k, row) ∷ x ∷ xs) ((x.0, row) ∷ xs) (x ∷ insert_entry key_cmp xs k row)
  twice_step x xs o e self ih = grind arith

  pub put_twice : (t : Table R) → put (put t k old) k row ≡ put t k row
  unfolding put
  put_twice [] =
      ap (λ (o : Ordering). match_ordering o ((k, row) ∷ (k, old) ∷ []) ((k, row) ∷ []) ((k, old) ∷ (k, row) ∷ []))
      (equal_of (key_cmp k k) (same_key_same k))
  put_twice (x ∷ xs) = twice_step x xs (key_cmp k x.0) refl (equal_of (key_cmp k k) (same_key_same k)) (put_twice xs)

module _ {R : Type 0} (k : Key) (row : R) where
  same_step : (x : Key × R) (xs : Table R) (o : Ordering) → key_cmp k x.0 ≡ o
      → AllByRecursion (λ y. key_cmp x.0 y ≡ Less) (keys_in xs)
      → cond (is_eq o) (Some x.1) (row_at xs k) ≡ Some row
      → (row_at xs k ≡ Some row → insert_entry key_cmp xs k row ≡ xs)
      → match_ordering o ((k, row) ∷ x ∷ xs) ((x.0, row) ∷ xs) (x ∷ insert_entry key_cmp xs k row) ≡ x ∷ xs
  unfolding has_row
  same_step x xs Less e above f ih =
      let gone : has_row xs k ≡ false = none_below k xs (all_later k x.0 (keys_in xs) e above) in cc (f, gone)
  same_step x xs Equal e above f ih = let here : x.1 ≡ row = cc in λ j. (x.0, sym here j) ∷ xs
  same_step x xs Greater e above f ih = ap (λ (t : Table R). x ∷ t) (ih f)

  pub put_same : (t : Table R) → IsStrictlySortedBy key_cmp (keys_in t) → row_at t k ≡ Some row → put t k row ≡ t
  unfolding put row_at keys_in IsStrictlySortedBy
  put_same [] rises e = cc
  put_same (x ∷ xs) rises e = same_step x xs (key_cmp k x.0) refl rises.0 e (put_same xs rises.1)

-- ---- each entry is found at its key

module _ {R : Type 0} where
  later_step : (x y : Key × R) (xs : Table R) (b : Bool) → same_key y.0 x.0 ≡ b → has_row xs x.0 ≡ false
      → row_at xs y.0 ≡ Some y.1 → cond b (Some x.1) (row_at xs y.0) ≡ Some y.1
  unfolding has_row
  later_step x y xs b e once f = grind (arith, equal_keys)

  pub entries_found : (t : Table R) → AreOnce t → AllByRecursion (λ e. row_at t e.0 ≡ Some e.1) t
  unfolding row_at
  entries_found [] once = tt
  entries_found (x ∷ xs) once = grind (arith, entries_found xs once.1, same_key_same, each_more, later_step)

  pub found_where_sorted : (t : Table R) → IsStrictlySortedBy key_cmp (keys_in t)
      → AllByRecursion (λ e. row_at t e.0 ≡ Some e.1) t
  found_where_sorted t rises = entries_found t (once_where_sorted t rises)

  -- in a table in order there is a row at the key of each entry
  pub rows_are_there : (t : Table R) → IsStrictlySortedBy key_cmp (keys_in t) → AllByRecursion (λ e. has_row t e.0 ≡ true) t
  unfolding has_row
  rows_are_there t rises = grind (arith, each_more, found_where_sorted)
