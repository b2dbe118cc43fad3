-- Rows at places, by the table that tells of them.
use Rattle.std.{proofs.{Common.{◌≡◌, ◌≢◌, ◌==◌, ℕ, Bool, true, false, cond, length, not, suc, [], ◌∷◌, Option, Some, None, option_map, refl, sym, ap, subst, ◌∙◌, arith}, lemmas.{Bool.{true≢false, Decides.nat_tests}, Map.Made.is_some-lookup}}, specs.{List.{AllByRecursion, cons_option, filter_map, list_any, Sorted.IsStrictlySortedBy}, BTreeMap.is_at, Option.option_and_then}}
use Rattle.pim_types.{specs.{declared.fact.Key.Key, Keys.{key_cmp, same_key}}, proofs.Keys.{equal_keys, same_key_same}}
use Rattle.pim_model.{specs.Tables.{Table, change_row, changed_entry, drop_at, drop_where, has_row, keys_in, put, row_at}}
use Rattle.pim_tables.{specs.Places.{ArePlaced, key_placed, rows_placed}, proofs.{Lookups.{none_goes, row_at-drop_at, row_at-put}, RisingRows.{Above, Up, head_row, none_above, same_rows, up_filtered, up_of_sorted, up_put}, Rows.absent_is_unchanged}}

same_place : (p q : ℕ) → (p == q) ≡ true → p ≡ q
same_place p q e = grind (arith, nat_tests)

other_place : (p q : ℕ) → (p == q) ≡ false → p ≢ q
other_place p q e same = grind (arith, nat_tests)

some_same : {X : Type 0} (a b : X) → Some a ≡ Some b → a ≡ b
some_same a b e = cc

-- a key that isn't the first is found below it
tail_row : {X : Type 0} (e : Key × X) (t : Table X) (k : Key) (x : X) (b : Bool) → same_key k e.0 ≡ b → Above e.0 t
    → row_at t k ≡ Some x → row_at (e ∷ t) k ≡ Some x
unfolding row_at
tail_row e t k x true is above found =
    let none : row_at t k ≡ None = ap (row_at t) (equal_keys k e.0 is) ∙ none_above e.0 t above in cc
tail_row e t k x false is above found = rw is found

module _ {R : Type 0} (at : ℕ → Option (Key × R)) where
  -- at each place of a table a row stands under its key
  abbrev pub AllStand : Table ℕ → Type 0
  AllStand t = AllByRecursion (λ (e : Key × ℕ). key_placed at e.1 ≡ Some e.0) t

  all_stand : (t : Table ℕ) → Up t → ((k : Key) (p : ℕ) → row_at t k ≡ Some p → key_placed at p ≡ Some k) → AllStand t
  all_stand [] up there = tt
  all_stand (e ∷ t) up there = (
    there e.0 e.1 (head_row e t),
    all_stand t up.1 (λ k p found. there k p (tail_row e t k p (same_key k e.0) refl up.0 found)),
  )

  keys_step : (e : Key × ℕ) (t : Table ℕ) (o : Option (Key × R)) → option_map (λ (x : Key × R). x.0) o ≡ Some e.0
      → keys_in (rows_placed at t) ≡ keys_in t → keys_in (cons_option o (rows_placed at t)) ≡ keys_in (e ∷ t)
  unfolding keys_in
  keys_step e t None has later = cc
  keys_step e t (Some x) has later = let key : x.0 ≡ e.0 = some_same x.0 e.0 has in λ j. key j ∷ later j

  keys_same : (t : Table ℕ) → AllStand t → keys_in (rows_placed at t) ≡ keys_in t
  unfolding keys_in
  keys_same [] all = refl
  keys_same (e ∷ t) all = keys_step e t (at e.1) all.0 (keys_same t all.1)

  many_step : (e : Key × ℕ) (t : Table ℕ) (o : Option (Key × R)) → option_map (λ (x : Key × R). x.0) o ≡ Some e.0
      → length (rows_placed at t) ≡ length t → length (cons_option o (rows_placed at t)) ≡ length (e ∷ t)
  many_step e t None has later = cc
  many_step e t (Some x) has later = ap suc later

  as_many : (t : Table ℕ) → AllStand t → length (rows_placed at t) ≡ length t
  as_many [] all = refl
  as_many (e ∷ t) all = many_step e t (at e.1) all.0 (as_many t all.1)

  -- the row at a place, if there is one
  abbrev pub row_of : Option ℕ → Option R
  row_of None = None
  row_of (Some p) = option_map (λ (x : Key × R). x.1) (at p)

  row_step : (q : Key) (e : Key × ℕ) (t : Table ℕ) (o : Option (Key × R)) → option_map (λ (x : Key × R). x.0) o ≡ Some e.0
      → at e.1 ≡ o → row_at (rows_placed at t) q ≡ row_of (row_at t q)
      → row_at (cons_option o (rows_placed at t)) q ≡ row_of (row_at (e ∷ t) q)
  unfolding row_at
  row_step q e t None has is later = cc
  row_step q e t (Some x) has is later =
      ap (λ (k : Key). cond (same_key q k) (Some x.1) (row_at (rows_placed at t) q)) (some_same x.0 e.0 has)
      ∙ go (same_key q e.0)
    where
      go : (b : Bool) → cond b (Some x.1) (row_at (rows_placed at t) q) ≡ row_of (cond b (Some e.1) (row_at t q))
      go true = sym (ap (λ o. option_map (λ (x : Key × R). x.1) o) is)
      go false = later

  row_standing : (q : Key) (t : Table ℕ) → AllStand t → row_at (rows_placed at t) q ≡ row_of (row_at t q)
  unfolding row_at
  row_standing q [] all = refl
  row_standing q (e ∷ t) all = row_step q e t (at e.1) all.0 refl (row_standing q t all.1)

  module _ (places : Table ℕ) (are : ArePlaced at places) where
    all : AllStand places
    all = all_stand places (up_of_sorted places are.rise) are.there

    pub counted : length (rows_placed at places) ≡ length places
    counted = as_many places all

    pub rising : IsStrictlySortedBy key_cmp (keys_in (rows_placed at places))
    rising = subst (λ ks. IsStrictlySortedBy key_cmp ks) (sym (keys_same places all)) are.rise

    pub found : (q : Key) → row_at (rows_placed at places) q ≡ row_of (row_at places q)
    found q = row_standing q places all

    pub has : (q : Key) → has_row (rows_placed at places) q ≡ has_row places q
    unfolding has_row row_at keys_in
    has q =
        is_some-lookup (is_at (key_cmp q)) (rows_placed at places)
        ∙ ap (λ ks. list_any (is_at (key_cmp q)) ks) (keys_same places all)
        ∙ sym (is_some-lookup (is_at (key_cmp q)) places)

    pub found_at : (q : Key) (p : ℕ) → row_at places q ≡ Some p
        → row_at (rows_placed at places) q ≡ option_map (λ (x : Key × R). x.1) (at p)
    found_at q p is = found q ∙ ap row_of is

    pub none_found : (q : Key) → row_at places q ≡ None → row_at (rows_placed at places) q ≡ None
    none_found q none = found q ∙ ap row_of none

    -- where no row is under a key, none is changed and none goes
    pub none_changed : (k : Key) (change : R → Option R) → row_at places k ≡ None
        → rows_placed at places ≡ change_row change k (rows_placed at places)
    unfolding row_at
    none_changed k change none = absent_is_unchanged k change (rows_placed at places) (none_found k none)

    -- what is there is told of no other place
    pub one_place : (k q : Key) (p : ℕ) → row_at places k ≡ Some p → key_placed at p ≡ Some q → k ≡ q
    one_place k q p found has = some_same k q (sym (are.there k p found) ∙ has)

    vacant_differs : (p q : ℕ) (k : Key) → at p ≡ None → key_placed at q ≡ Some k → q ≢ p
    vacant_differs p q k none has same =
        let no : None ≡ Some k = sym (ap (λ o. option_map (λ (x : Key × R). x.0) o) (ap at same ∙ none)) ∙ has in cc

-- ---- a row that is changed where it stands

module _ {R : Type 0} (at after_at : ℕ → Option (Key × R)) (change : Key × R → Option (Key × R)) where
  follow_step : (t : Table ℕ) (o o' : Option (Key × R)) → o' ≡ option_and_then change o
      → rows_placed after_at t ≡ filter_map change (rows_placed at t)
      → cons_option o' (rows_placed after_at t) ≡ filter_map change (cons_option o (rows_placed at t))
  follow_step t None o' is later = ap (λ u. cons_option u (rows_placed after_at t)) is ∙ later
  follow_step t (Some x) o' is later =
      ap (λ u. cons_option u (rows_placed after_at t)) is ∙ ap (λ u. cons_option (change x) u) later

  follows : ((p : ℕ) → after_at p ≡ option_and_then change (at p)) → (t : Table ℕ)
      → rows_placed after_at t ≡ filter_map change (rows_placed at t)
  follows each [] = refl
  follows each (e ∷ t) = follow_step t (at e.1) (after_at e.1) (each e.1) (follows each t)

module _ {R : Type 0} (at after_at : ℕ → Option (Key × R)) (places : Table ℕ) (are : ArePlaced at places) (k : Key)
    (place : ℕ) (found : row_at places k ≡ Some place) (after : R → R)
    (changed : after_at place ≡ option_map (λ (x : Key × R). (x.0, after x.1)) (at place))
    (others : (p : ℕ) → p ≢ place → after_at p ≡ at p) where
  abbrev entry : Key × R → Option (Key × R)
  entry x = changed_entry (λ r. Some (after r)) k x

  here : (o : Option (Key × R)) → option_map (λ (x : Key × R). x.0) o ≡ Some k
      → option_map (λ (x : Key × R). (x.0, after x.1)) o ≡ option_and_then entry o
  unfolding changed_entry
  here None has = refl
  here (Some x) has =
      let same : same_key k x.0 ≡ true =
      ap (λ (q : Key). same_key k q) (some_same x.0 k has) ∙ same_key_same k in
      rw same refl

  there : (p : ℕ) → p ≢ place → (o : Option (Key × R)) → at p ≡ o → o ≡ option_and_then entry o
  unfolding changed_entry
  there p differs None is = refl
  there p differs (Some x) is = go (same_key k x.0) refl
    where
      go : (b : Bool) → same_key k x.0 ≡ b → Some x ≡ cond b (Some (x.0, after x.1)) (Some x)
      go true same =
          let told : row_at places k ≡ Some p =
          are.told k p (ap (λ o. option_map (λ (x : Key × R). x.0) o) is ∙ ap (λ (q : Key). Some q) (sym (equal_keys k x.0 same))) in
          absurd (differs (some_same p place (sym told ∙ found)))
      go false other = refl

  each : (p : ℕ) (b : Bool) → (p == place) ≡ b → after_at p ≡ option_and_then entry (at p)
  each p true same =
      let is : p ≡ place = same_place p place same in
      ap after_at is ∙ changed ∙ here (at place) (are.there k place found)
      ∙ ap (λ q. option_and_then entry (at q)) (sym is)
  each p false other = others p (other_place p place other) ∙ there p (other_place p place other) (at p) refl

  pub changed_standing : rows_placed after_at places ≡ change_row (λ r. Some (after r)) k (rows_placed at places)
  unfolding change_row
  changed_standing = follows at after_at entry (λ p. each p (p == place) refl) places

  key_kept : (p : ℕ) (b : Bool) → (p == place) ≡ b → key_placed after_at p ≡ key_placed at p
  key_kept p true same =
      let is : p ≡ place = same_place p place same in
      ap (λ q. key_placed after_at q) is ∙ ap (λ o. option_map (λ (x : Key × R). x.0) o) changed ∙ go (at place)
      ∙ ap (λ q. key_placed at q) (sym is)
    where
      go : (o : Option (Key × R)) → option_map (λ (x : Key × R). x.0) (option_map (λ (x : Key × R). (x.0, after x.1)) o)
          ≡ option_map (λ (x : Key × R). x.0) o
      go None = refl
      go (Some x) = refl
  key_kept p false other = ap (λ o. option_map (λ (x : Key × R). x.0) o) (others p (other_place p place other))

  pub still_placed : ArePlaced after_at places
  still_placed =
      record {
        rise = are.rise;
        there = λ q p is. key_kept p (p == place) refl ∙ are.there q p is;
        told = λ q p is. are.told q p (sym (key_kept p (p == place) refl) ∙ is);
      }

-- ---- a row that comes

module _ {R : Type 0} (at after_at : ℕ → Option (Key × R)) (places after : Table ℕ) (are : ArePlaced at places) (k : Key)
    (row : R) (place : ℕ) (absent : row_at places k ≡ None) (vacant : at place ≡ None)
    (comes : after_at place ≡ Some (k, row)) (others : (p : ℕ) → p ≢ place → after_at p ≡ at p)
    (is : after ≡ put places k place) (rise : IsStrictlySortedBy key_cmp (keys_in after)) where
  found_after : (q : Key) → row_at after q ≡ cond (same_key q k) (Some place) (row_at places q)
  found_after q = ap (λ (t : Table ℕ). row_at t q) is ∙ row_at-put k q places place

  kept_at : (q : Key) (p : ℕ) → key_placed at p ≡ Some q → after_at p ≡ at p
  kept_at q p has = others p (vacant_differs at places are place p q vacant has)

  there_after : (q : Key) (p : ℕ) (b : Bool) → same_key q k ≡ b → cond b (Some place) (row_at places q) ≡ Some p
      → key_placed after_at p ≡ Some q
  there_after q p true same found =
      ap (λ x. key_placed after_at x) (sym (some_same place p found)) ∙ ap (λ o. option_map (λ (x : Key × R). x.0) o) comes
      ∙ ap (λ (x : Key). Some x) (sym (equal_keys q k same))
  there_after q p false other found =
      let has : key_placed at p ≡ Some q = are.there q p found in
      ap (λ o. option_map (λ (x : Key × R). x.0) o) (kept_at q p has) ∙ has

  told_other : (q : Key) (p : ℕ) (b : Bool) → same_key q k ≡ b → row_at places q ≡ Some p
      → cond b (Some place) (row_at places q) ≡ Some p
  told_other q p true same found =
      let no : None ≡ Some p = sym absent ∙ ap (row_at places) (sym (equal_keys q k same)) ∙ found in cc
  told_other q p false other found = found

  told_after : (q : Key) (p : ℕ) (b : Bool) → (p == place) ≡ b → key_placed after_at p ≡ Some q
      → cond (same_key q k) (Some place) (row_at places q) ≡ Some p
  told_after q p true same has =
      let here : p ≡ place = same_place p place same in
      let key : k ≡ q =
      some_same k q (sym (ap (λ x. key_placed after_at x) here ∙ ap (λ o. option_map (λ (x : Key × R). x.0) o) comes) ∙ has) in
      ap (λ (x : Key). cond (same_key x k) (Some place) (row_at places x)) (sym key)
      ∙ ap (λ (b : Bool). cond b (Some place) (row_at places k)) (same_key_same k) ∙ ap (λ x. Some x) (sym here)
  told_after q p false other has =
      told_other q p (same_key q k) refl
      (are.told q p (sym (ap (λ o. option_map (λ (x : Key × R). x.0) o) (others p (other_place p place other))) ∙ has))

  pub placed_after : ArePlaced after_at after
  placed_after =
      record {
        rise = rise;
        there = λ q p found. there_after q p (same_key q k) refl (sym (found_after q) ∙ found);
        told = λ q p has. found_after q ∙ told_after q p (p == place) refl has;
      }

  other_rows : (q : Key) (o : Option ℕ) → row_at places q ≡ o → row_of after_at o ≡ row_of at o
  other_rows q None found = refl
  other_rows q (Some p) found =
      ap (λ o. option_map (λ (x : Key × R). x.1) o) (kept_at q p (are.there q p found))

  rows_after : (q : Key) (b : Bool) → row_of after_at (cond b (Some place) (row_at places q))
      ≡ cond b (Some row) (row_of at (row_at places q))
  rows_after q true = ap (λ o. option_map (λ (x : Key × R). x.1) o) comes
  rows_after q false = other_rows q (row_at places q) refl

  pub added_standing : rows_placed after_at after ≡ put (rows_placed at places) k row
  added_standing =
      same_rows (rows_placed after_at after) (put (rows_placed at places) k row)
      (up_of_sorted (rows_placed after_at after) (rising after_at after placed_after))
      (up_put k row (rows_placed at places) (up_of_sorted (rows_placed at places) (rising at places are)))
      (λ q. found after_at after placed_after q ∙ ap (row_of after_at) (found_after q) ∙ rows_after q (same_key q k)
      ∙ ap (λ o. cond (same_key q k) (Some row) o) (sym (found at places are q))
      ∙ sym (row_at-put k q (rows_placed at places) row))

-- ---- a row that goes

module _ {R : Type 0} (at : ℕ → Option (Key × R)) (places after : Table ℕ) (are : ArePlaced at places) (k : Key)
    (is : after ≡ drop_at places k) where
  -- where there is none, nothing changes
  module _ (none : row_at places k ≡ None) where
    none_left : after ≡ places
    none_left = is ∙ none_goes k places none

    pub still_placed_left : ArePlaced at after
    still_placed_left = subst (λ (t : Table ℕ). ArePlaced at t) (sym none_left) are

    pub none_left_standing : rows_placed at after ≡ drop_at (rows_placed at places) k
    none_left_standing =
        ap (λ (t : Table ℕ). rows_placed at t) none_left
        ∙ sym (none_goes k (rows_placed at places) (none_found at places are k none))

  found_left : (q : Key) → row_at after q ≡ cond (same_key q k) None (row_at places q)
  found_left q = ap (λ (t : Table ℕ). row_at t q) is ∙ row_at-drop_at k q places

  module _ (after_at : ℕ → Option (Key × R)) (place : ℕ) (found_at : row_at places k ≡ Some place)
      (gone : after_at place ≡ None) (others : (p : ℕ) → p ≢ place → after_at p ≡ at p)
      (rise : IsStrictlySortedBy key_cmp (keys_in after)) where
    elsewhere : (q : Key) (p : ℕ) → same_key q k ≡ false → row_at places q ≡ Some p → p ≢ place
    elsewhere q p other found same =
        let key : k ≡ q = one_place at places are k q place found_at (ap (λ x. key_placed at x) (sym same) ∙ are.there q p found) in
        absurd (true≢false (sym (same_key_same k) ∙ ap (λ (x : Key). same_key x k) key ∙ other))

    there_left : (q : Key) (p : ℕ) (b : Bool) → same_key q k ≡ b → cond b None (row_at places q) ≡ Some p
        → key_placed after_at p ≡ Some q
    there_left q p true same found = cc
    there_left q p false other found =
        ap (λ o. option_map (λ (x : Key × R). x.0) o) (others p (elsewhere q p other found)) ∙ are.there q p found

    told_other_left : (q : Key) (p : ℕ) (b : Bool) → same_key q k ≡ b → p ≢ place → row_at places q ≡ Some p
        → cond b None (row_at places q) ≡ Some p
    told_other_left q p true same differs found =
        absurd (differs (some_same p place (sym found ∙ ap (row_at places) (equal_keys q k same) ∙ found_at)))
    told_other_left q p false other differs found = found

    told_left : (q : Key) (p : ℕ) (b : Bool) → (p == place) ≡ b → key_placed after_at p ≡ Some q
        → cond (same_key q k) None (row_at places q) ≡ Some p
    told_left q p true same has =
        let no : None ≡ Some q =
        sym (ap (λ x. key_placed after_at x) (same_place p place same) ∙ ap (λ o. option_map (λ (x : Key × R). x.0) o) gone)
        ∙ has in cc
    told_left q p false other has =
        told_other_left q p (same_key q k) refl (other_place p place other)
        (are.told q p (sym (ap (λ o. option_map (λ (x : Key × R). x.0) o) (others p (other_place p place other))) ∙ has))

    pub placed_left : ArePlaced after_at after
    placed_left =
        record {
          rise = rise;
          there = λ q p found. there_left q p (same_key q k) refl (sym (found_left q) ∙ found);
          told = λ q p has. found_left q ∙ told_left q p (p == place) refl has;
        }

    other_rows_left : (q : Key) (o : Option ℕ) → same_key q k ≡ false → row_at places q ≡ o
        → row_of after_at o ≡ row_of at o
    other_rows_left q None other found = refl
    other_rows_left q (Some p) other found =
        ap (λ o. option_map (λ (x : Key × R). x.1) o) (others p (elsewhere q p other found))

    rows_left : (q : Key) (b : Bool) → same_key q k ≡ b → row_of after_at (cond b None (row_at places q))
        ≡ cond b None (row_of at (row_at places q))
    rows_left q true same = refl
    rows_left q false other = other_rows_left q (row_at places q) other refl

    pub left_standing : rows_placed after_at after ≡ drop_at (rows_placed at places) k
    unfolding drop_at drop_where
    left_standing =
        same_rows (rows_placed after_at after) (drop_at (rows_placed at places) k)
        (up_of_sorted (rows_placed after_at after) (rising after_at after placed_left))
        (up_filtered (λ e. not (same_key k e.0)) (rows_placed at places)
        (up_of_sorted (rows_placed at places) (rising at places are)))
        (λ q. found after_at after placed_left q ∙ ap (row_of after_at) (found_left q) ∙ rows_left q (same_key q k) refl
        ∙ ap (λ o. cond (same_key q k) None o) (sym (found at places are q))
        ∙ sym (row_at-drop_at k q (rows_placed at places)))
