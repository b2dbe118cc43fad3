-- Look-ups in the rows of some keys, and in tables whose rows were cut down.
use Rattle.std.{proofs.{Common.{◌≡◌, ℕ, Bool, true, false, cond, [], ◌∷◌, map, Option, Some, None, option_map, is_some, refl, ap, subst, ◌||◌, arith}, lemmas.Bool.{or_left, or_right}}, specs.{List.list_any, Map.lookup, BTreeMap.is_at, Option.option_map_or}}
use Rattle.pim_types.{specs.{declared.fact.Key.Key, Keys.{key_cmp, same_key, is_on}}, proofs.Keys.equal_keys}
use Rattle.pim_model.{specs.Tables.{Table, row_at, has_row, rows_on, rows_where}}

module _ {R : Type 0} (sees : Key → Bool) (k : Key) (seen : sees k ≡ true) where
  step : (x : Key × R) (xs : Table R) (b : Bool) → sees x.0 ≡ b
      → lookup (is_at (key_cmp k)) (rows_where sees xs) ≡ lookup (is_at (key_cmp k)) xs
      → lookup (is_at (key_cmp k)) (cond b (x ∷ rows_where sees xs) (rows_where sees xs))
      ≡ lookup (is_at (key_cmp k)) (x ∷ xs)
  step x xs b e ih = grind (arith, equal_keys)

  pub row_in_scope : (t : Table R) → row_at (rows_where sees t) k ≡ row_at t k
  unfolding row_at rows_where
  row_in_scope [] = refl
  row_in_scope (x ∷ xs) = step x xs (sees x.0) refl (row_in_scope xs)

  pub has_row_in_scope : (t : Table R) → has_row (rows_where sees t) k ≡ has_row t k
  unfolding has_row
  has_row_in_scope t = ap (λ (o : Option R). is_some o) (row_in_scope t)

module _ {R : Type 0} (sees : Key → Bool) (k : Key) (unseen : sees k ≡ false) where
  out_step : (x : Key × R) (xs : Table R) (b : Bool) → sees x.0 ≡ b
      → lookup (is_at (key_cmp k)) (rows_where sees xs) ≡ None
      → lookup (is_at (key_cmp k)) (cond b (x ∷ rows_where sees xs) (rows_where sees xs)) ≡ None
  out_step x xs true e ih = go (same_key k x.0) refl
    where
      go : (c : Bool) → same_key k x.0 ≡ c → cond c (Some x.1) (lookup (is_at (key_cmp k)) (rows_where sees xs)) ≡ None
      go true f = cc (ap sees (equal_keys k x.0 f), unseen, e)
      go false f = ih
  out_step x xs false e ih = ih

  pub row_out_of_scope : (t : Table R) → row_at (rows_where sees t) k ≡ None
  unfolding row_at rows_where
  row_out_of_scope [] = refl
  row_out_of_scope (x ∷ xs) = out_step x xs (sees x.0) refl (row_out_of_scope xs)

-- where there is a row whose key passes, one passes
module _ {R : Type 0} (p : Key → Bool) (k : Key) (here : p k ≡ true) where
  pub row_shows : (t : Table R) → is_some (row_at t k) ≡ true → list_any (λ e. p e.0) t ≡ true
  unfolding row_at
  row_shows [] e = cc
  row_shows (x ∷ xs) e = go (same_key k x.0) refl e (row_shows xs)
    where
      go : (c : Bool) → same_key k x.0 ≡ c → is_some (cond c (Some x.1) (row_at xs k)) ≡ true
          → (is_some (row_at xs k) ≡ true → list_any (λ e. p e.0) xs ≡ true)
          → (p x.0 || list_any (λ e. p e.0) xs) ≡ true
      go true f h ih = or_left (p x.0) _ (subst (λ (q : Key). p q ≡ true) (equal_keys k x.0 f) here)
      go false f h ih = or_right (p x.0) _ (ih h)

-- ---- tables whose rows were cut down

module _ {R : Type 0} (cut : R → R) where
  abbrev pub cut_entry : Key × R → Key × R
  cut_entry e = (e.0, cut e.1)

  on_step : (i : ℕ) (x : Key × R) (xs : Table R) (b : Bool)
      → rows_on i (map cut_entry xs) ≡ map cut_entry (rows_on i xs)
      → cond b (cut_entry x ∷ rows_on i (map cut_entry xs)) (rows_on i (map cut_entry xs)) ≡ map cut_entry
      (cond b (x ∷ rows_on i xs) (rows_on i xs))
  on_step i x xs b ih = grind arith

  pub rows_on_cut : (i : ℕ) (t : Table R) → rows_on i (map cut_entry t) ≡ map cut_entry (rows_on i t)
  unfolding rows_on
  rows_on_cut i [] = refl
  rows_on_cut i (x ∷ xs) = on_step i x xs (is_on i x.0) (rows_on_cut i xs)

  where_step : (sees : Key → Bool) (x : Key × R) (xs : Table R) (b : Bool)
      → rows_where sees (map cut_entry xs) ≡ map cut_entry (rows_where sees xs)
      → cond b (cut_entry x ∷ rows_where sees (map cut_entry xs)) (rows_where sees (map cut_entry xs)) ≡ map cut_entry
      (cond b (x ∷ rows_where sees xs) (rows_where sees xs))
  where_step sees x xs b ih = grind arith

  pub rows_where_cut : (sees : Key → Bool) (t : Table R)
      → rows_where sees (map cut_entry t) ≡ map cut_entry (rows_where sees t)
  unfolding rows_where
  rows_where_cut sees [] = refl
  rows_where_cut sees (x ∷ xs) = where_step sees x xs (sees x.0) (rows_where_cut sees xs)

  -- the row at a key
  pub row_at_cut : (k : Key) (t : Table R) → row_at (map cut_entry t) k ≡ option_map cut (row_at t k)
  unfolding row_at
  row_at_cut k [] = refl
  row_at_cut k (x ∷ xs) = grind (arith, row_at_cut k xs)

  -- what is read of it, where that is read of the row as it was cut down too
  pub read_of_cut : (read : R → Bool) → ((r : R) → read (cut r) ≡ read r) → (o : Option R)
      → option_map_or read (option_map cut o) false ≡ option_map_or read o false
  read_of_cut read same o = grind arith
