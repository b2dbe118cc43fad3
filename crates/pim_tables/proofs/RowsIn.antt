-- Rows that stand in the values of another table, by that table.
use Rattle.std.{proofs.Common.{◌≡◌, ◌||◌, Bool, true, false, cond, not, [], ◌∷◌, Option, Some, None, option_map, refl, sym, ap, subst, ◌∙◌}, specs.{List.{cons_option, list_any}, Option.option_and_then, declared.cmp.Ordering.TheVariants.Less}}
use Rattle.pim_types.{specs.{declared.fact.Key.Key, Keys.{key_cmp, same_key}}, proofs.Keys.equal_keys}
use Rattle.pim_model.{specs.Tables.{Table, drop_at, drop_where, keys_in, put, row_at, set_row}}
use Rattle.law_settled.{proofs.ListLaws.each_filter_map}
use Rattle.pim_tables.{proofs.{Lookups.{row_at-drop_at, row_at-put}, RisingRows.{Above, Up, none_above, same_rows, up_filtered, up_put}}, specs.{Ends.DifferAt, RowsIn.rows_in}}

module _ {V R : Type 0} (row : V → Option R) where
  entry : Key × V → Option (Key × R)
  entry e = option_map (λ (r : R). (e.0, r)) (row e.1)

  same_place : (k : Key) (e : Key × V) (d : Key × R) (o : Option R) → option_map (λ (r : R). (e.0, r)) o ≡ Some d
      → key_cmp k e.0 ≡ Less → key_cmp k d.0 ≡ Less
  same_place k e d None is less = cc
  same_place k e d (Some r) is less = let same : e.0 ≡ d.0 = cc in subst (λ (q : Key). key_cmp k q ≡ Less) same less

  above_in : (k : Key) (t : Table V) → Above k t → Above k (rows_in row t)
  unfolding rows_in
  above_in k t =
      each_filter_map (λ (e : Key × V). key_cmp k e.0 ≡ Less) (λ (d : Key × R). key_cmp k d.0 ≡ Less)
      (λ e. option_map (λ (r : R). (e.0, r)) (row e.1)) (λ e d is. same_place k e d (row e.1) is) t

  up_step : (e : Key × V) (t : Table V) (o : Option R) → Above e.0 (rows_in row t) → Up (rows_in row t)
      → Up (cons_option (option_map (λ (r : R). (e.0, r)) o) (rows_in row t))
  up_step e t None above up = up
  up_step e t (Some r) above up = (above, up)

  -- they rise where the keys of the other do
  pub up_in : (t : Table V) → Up t → Up (rows_in row t)
  unfolding rows_in
  up_in [] up = tt
  up_in (e ∷ t) up = up_step e t (row e.1) (above_in e.0 t up.0) (up_in t up.1)

  found_step : (q : Key) (e : Key × V) (t : Table V) (o : Option R) (b : Bool) → row e.1 ≡ o → same_key q e.0 ≡ b
      → Above e.0 (rows_in row t) → row_at (rows_in row t) q ≡ option_and_then row (row_at t q)
      → row_at (cons_option (option_map (λ (r : R). (e.0, r)) o) (rows_in row t)) q
      ≡ option_and_then row (cond b (Some e.1) (row_at t q))
  unfolding row_at
  found_step q e t None true is same above later =
      ap (row_at (rows_in row t)) (equal_keys q e.0 same) ∙ none_above e.0 (rows_in row t) above ∙ sym is
  found_step q e t None false is same above later = later
  found_step q e t (Some r) true is same above later = rw same (sym is)
  found_step q e t (Some r) false is same above later = rw same later

  -- the row under a key is that of the value there
  pub found_in : (t : Table V) → Up t → (q : Key) → row_at (rows_in row t) q ≡ option_and_then row (row_at t q)
  unfolding rows_in row_at
  found_in [] up q = refl
  found_in (e ∷ t) up q =
      found_step q e t (row e.1) (same_key q e.0) refl refl (above_in e.0 t up.0) (found_in t up.1 q)

  -- two tables have the same rows where at each key the values have
  pub same_in : (t u : Table V) → Up t → Up u
      → ((q : Key) → option_and_then row (row_at t q) ≡ option_and_then row (row_at u q)) → rows_in row t ≡ rows_in row u
  same_in t u up up' same =
      same_rows (rows_in row t) (rows_in row u) (up_in t up) (up_in u up')
      (λ q. found_in t up q ∙ same q ∙ sym (found_in u up' q))

  -- ---- after a value is written

  up_dropped : (k : Key) (x : Table R) → Up x → Up (drop_at x k)
  unfolding drop_at drop_where
  up_dropped k x = up_filtered (λ e. not (same_key k e.0)) x

  module _ (t u : Table V) (up : Up t) (up' : Up u) (k : Key) (w : Option R)
      (is : (q : Key) → option_and_then row (row_at u q) ≡ cond (same_key q k) w (option_and_then row (row_at t q))) where
    pub differ_in : DifferAt (rows_in row t) (rows_in row u) k w
    differ_in q =
        found_in u up' q ∙ is q
        ∙ ap (λ (o : Option R). cond (same_key q k) w o) (sym (found_in t up q))

    put_or_taken : (o : Option R) → w ≡ o → rows_in row u ≡ set_row (rows_in row t) k o
    unfolding set_row
    put_or_taken None none =
        same_rows (rows_in row u) (drop_at (rows_in row t) k) (up_in u up') (up_dropped k (rows_in row t) (up_in t up))
        (λ q. differ_in q ∙ ap (λ (o : Option R). cond (same_key q k) o (row_at (rows_in row t) q)) none
        ∙ sym (row_at-drop_at k q (rows_in row t)))
    put_or_taken (Some r) some =
        same_rows (rows_in row u) (put (rows_in row t) k r) (up_in u up') (up_put k r (rows_in row t) (up_in t up))
        (λ q. differ_in q ∙ ap (λ (o : Option R). cond (same_key q k) o (row_at (rows_in row t) q)) some
        ∙ sym (row_at-put k q (rows_in row t) r))

    -- the row is put, or taken away
    pub set_in : rows_in row u ≡ set_row (rows_in row t) k w
    set_in = put_or_taken w refl

  -- ---- keys that pass

  module _ (p : Key → Bool) where
    none_step : (e : Key × V) (t : Table V) (o : Option R) → (p e.0 || list_any p (keys_in t)) ≡ false
        → (list_any p (keys_in t) ≡ false → list_any p (keys_in (rows_in row t)) ≡ false)
        → list_any p (keys_in (cons_option (option_map (λ (r : R). (e.0, r)) o) (rows_in row t))) ≡ false
    unfolding keys_in
    none_step e t None none later = later (right (p e.0) (list_any p (keys_in t)) none)
      where
        right : (a b : Bool) → (a || b) ≡ false → b ≡ false
        right true b e = cc
        right false b e = e
    none_step e t (Some r) none later = go (p e.0) none
      where
        go : (b : Bool) → (b || list_any p (keys_in t)) ≡ false → (b || list_any p (keys_in (rows_in row t))) ≡ false
        go true none = cc
        go false none = later none

    -- where no key of the values passes, no key of the rows does
    pub none_in : (t : Table V) → list_any p (keys_in t) ≡ false → list_any p (keys_in (rows_in row t)) ≡ false
    unfolding rows_in keys_in
    none_in [] none = refl
    none_in (e ∷ t) none = none_step e t (row e.1) none (none_in t)

    no_row_step : (k : Key) (v : V) (e : Key × V) (t : Table V) (o : Option R) (b : Bool) → row e.1 ≡ o → same_key k e.0 ≡ b
        → list_any p (keys_in (cons_option (option_map (λ (r : R). (e.0, r)) o) (rows_in row t))) ≡ false
        → cond b (Some e.1) (row_at t k) ≡ Some v → p k ≡ true
        → (list_any p (keys_in (rows_in row t)) ≡ false → row_at t k ≡ Some v → row v ≡ None) → row v ≡ None
    unfolding keys_in
    no_row_step k v e t None true is same none found passes later =
        let one : e.1 ≡ v = cc in ap row (sym one) ∙ is
    no_row_step k v e t None false is same none found passes later = later none found
    no_row_step k v e t (Some r) true is same none found passes later =
        absurd (go (p e.0) (ap p (sym (equal_keys k e.0 same)) ∙ passes) none)
      where
        go : (b : Bool) → b ≡ true → (b || list_any p (keys_in (rows_in row t))) ≡ false → ⊥
        go true is none = cc
        go false is none = cc
    no_row_step k v e t (Some r) false is same none found passes later = later (right (p e.0) _ none) found
      where
        right : (a b : Bool) → (a || b) ≡ false → b ≡ false
        right true b e = cc
        right false b e = e

    -- where no key of the rows passes, no value under a key that passes has a row
    pub no_row_in : (t : Table V) (k : Key) (v : V) → list_any p (keys_in (rows_in row t)) ≡ false → row_at t k ≡ Some v
        → p k ≡ true → row v ≡ None
    unfolding rows_in row_at
    no_row_in [] k v none found passes = cc
    no_row_in (e ∷ t) k v none found passes =
        no_row_step k v e t (row e.1) (same_key k e.0) refl refl none found passes
        (λ none found. no_row_in t k v none found passes)
