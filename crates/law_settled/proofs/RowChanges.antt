-- A change of rows under keys that aren't seen leaves the rows that are.
use Rattle.std.{proofs.Common.{◌≡◌, Bool, true, false, not, cond, [], ◌∷◌, Option, Some, option_map, refl, ap, arith}, specs.{List.{cons_option, filter}, BTreeMap.insert_entry, Ordering.{is_eq, match_ordering}, declared.cmp.Ordering.{Ordering, TheVariants.{Less, Equal, Greater}}}}
use Rattle.pim_types.{specs.{declared.fact.Key.Key, Keys.{key_cmp, same_key}}, proofs.Keys.equal_keys}
use Rattle.pim_model.{specs.Tables.{Table, change_row, changed_entry, drop_at, drop_where, put, rows_where, set_row}}

other_key : (sees : Key → Bool) (k q : Key) (b c : Bool) → sees k ≡ false → sees q ≡ b → same_key k q ≡ c → b ≡ true
    → not c ≡ true
other_key sees k q b c e f s g = grind (arith, equal_keys)

module _ {R : Type 0} (sees : Key → Bool) where
  -- ---- rows that go

  filter_step : (p : Key × R → Bool) (x : Key × R) (xs : Table R) (b c : Bool) → (b ≡ true → c ≡ true)
      → rows_where sees (filter p xs) ≡ rows_where sees xs → sees x.0 ≡ b
      → rows_where sees (cond c (x ∷ filter p xs) (filter p xs)) ≡ cond b (x ∷ rows_where sees xs) (rows_where sees xs)
  unfolding rows_where
  filter_step p x xs b c stays ih e = grind arith

  -- a filter that all rows that are seen pass
  pub filtered_elsewhere : (p : Key × R → Bool) → ((e : Key × R) → sees e.0 ≡ true → p e ≡ true)
      → (t : Table R) → rows_where sees (filter p t) ≡ rows_where sees t
  unfolding rows_where
  filtered_elsewhere p stays [] = refl
  filtered_elsewhere p stays (x ∷ xs) = grind (arith, filtered_elsewhere p stays xs, filter_step)

  pub dropped_elsewhere : (k : Key) → sees k ≡ false → (t : Table R) → rows_where sees (drop_at t k) ≡ rows_where sees t
  unfolding drop_at drop_where
  dropped_elsewhere k e t =
      filtered_elsewhere (λ x. not (same_key k x.0)) (λ x f. other_key sees k x.0 true (same_key k x.0) e f refl refl) t

  -- ---- a row that changes

  change_step : (k : Key) (x : Key × R) (xs ys : Table R) (o : Option R) (b c : Bool)
      → rows_where sees ys ≡ rows_where sees xs
      → sees x.0 ≡ b → (b ≡ true → not c ≡ true)
      → rows_where sees (cons_option (cond c (option_map (λ (r : R). let p : Key × R = (x.0, r) in p) o) (Some x)) ys)
      ≡ cond b (x ∷ rows_where sees xs) (rows_where sees xs)
  unfolding rows_where
  change_step k x xs ys o b c ih e apart = grind arith

  pub changed_elsewhere : (change : R → Option R) (k : Key) → sees k ≡ false → (t : Table R)
      → rows_where sees (change_row change k t) ≡ rows_where sees t
  unfolding rows_where change_row changed_entry
  changed_elsewhere change k e [] = refl
  changed_elsewhere change k e (x ∷ xs) =
      change_step k x xs (change_row change k xs) (change x.1) (sees x.0) (same_key k x.0)
      (changed_elsewhere change k e xs) refl (other_key sees k x.0 (sees x.0) (same_key k x.0) e refl refl)

  -- ---- a row that is put

  put_step : (k : Key) (r : R) (x : Key × R) (xs : Table R) (o : Ordering) → key_cmp k x.0 ≡ o
      → sees k ≡ false
      → (b : Bool) → sees x.0 ≡ b → rows_where sees (insert_entry key_cmp xs k r) ≡ rows_where sees xs
      → rows_where sees (match_ordering o ((k, r) ∷ x ∷ xs) ((x.0, r) ∷ xs) (x ∷ insert_entry key_cmp xs k r))
      ≡ cond b (x ∷ rows_where sees xs) (rows_where sees xs)
  unfolding rows_where
  put_step k r x xs Less e apart b f ih = rw (apart, f) refl
  put_step k r x xs Equal e apart true f ih = cc (other_key sees k x.0 true true apart f (ap is_eq e) refl)
  put_step k r x xs Equal e apart false f ih = rw f refl
  put_step k r x xs Greater e apart true f ih = rw f (ap (λ (t : Table R). x ∷ t) ih)
  put_step k r x xs Greater e apart false f ih = rw f ih

  pub put_elsewhere : (k : Key) → sees k ≡ false → (t : Table R) (r : R)
      → rows_where sees (put t k r) ≡ rows_where sees t
  unfolding rows_where put
  put_elsewhere k e [] r = rw e refl
  put_elsewhere k e (x ∷ xs) r = grind (arith, put_elsewhere k e xs r, put_step)

  pub set_elsewhere : (k : Key) → sees k ≡ false → (t : Table R) (row : Option R)
      → rows_where sees (set_row t k row) ≡ rows_where sees t
  unfolding set_row
  set_elsewhere k e t row = grind (arith, dropped_elsewhere, put_elsewhere)
