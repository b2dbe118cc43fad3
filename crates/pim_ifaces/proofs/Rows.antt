-- The rows of interfaces, by rising number.
use Rattle.std.{proofs.{Common.{◌≡◌, ℕ, ◌+◌, ◌<◌, ◌≤◌, Bool, true, false, cond, not, List, [], ◌∷◌, length, map, min, Some, None, Result, Ok, Err, OnOk, OnErr, is_some, refl, sym, ap, ◌∙◌, arith, eqb}, lemmas.Grind.common_steps}, specs.{List.cons_option, Map.lookup, BTreeMap.{insert_entry, is_at}, declared.cmp.Ordering.{Ordering, TheVariants.{Less, Equal, Greater}}, Ordering.{is_eq, match_ordering, nat_cmp, ordering_then}}}
use Rattle.pim_types.{specs.{declared.{config.InterfaceConfig.InterfaceConfig, fact.{InterfaceRow.InterfaceRow, Key.Key}}, Keys.{addr_cmp, iface_in, iface_key, is_on, key_cmp, same_key}}}
use Rattle.pim_model.{specs.{Tables.{Table, change_row, changed_entry, drop_at, drop_where, has_row, put, row_at}, State.{Addressing, InterfaceTable}, Hellos.hellos_triggered, Writing.hellos_paid}}
use Rattle.pim_ifaces.{specs.Interfaces.{InterfacesRise, IsHeld}}

-- keys of interfaces compare as the numbers do
then-equal : (o : Ordering) → ordering_then o Equal ≡ o
then-equal Less = refl
then-equal Equal = refl
then-equal Greater = refl

pub iface_key_cmp : (i j : ℕ) → key_cmp (iface_key i) (iface_key j) ≡ nat_cmp i j
unfolding key_cmp addr_cmp
iface_key_cmp i j = then-equal (nat_cmp i j)

iface_cmp : (i : ℕ) (k : Key) → k ≡ iface_key (iface_in k) → key_cmp (iface_key i) k ≡ nat_cmp i (iface_in k)
iface_cmp i k e = ap (key_cmp (iface_key i)) e ∙ iface_key_cmp i (iface_in k)

pub InterfacesRise-lower : (low lower count : ℕ) (rows : Table InterfaceRow) → lower ≤ low
    → InterfacesRise low count rows → InterfacesRise lower count rows
InterfacesRise-lower low lower count [] le h = tt
InterfacesRise-lower low lower count (e ∷ es) le h = (h.0, omega arith, h.2, h.3)

-- an interface that has a row is configured
below_step : (i low count : ℕ) (e : Key × InterfaceRow) (es : Table InterfaceRow) (o : Ordering)
    → nat_cmp i (iface_in e.0) ≡ o → iface_in e.0 < count
    → (is_some (lookup (is_at (key_cmp (iface_key i))) es) ≡ true → i < count)
    → is_some (cond (is_eq o) (Some e.1) (lookup (is_at (key_cmp (iface_key i))) es)) ≡ true → i < count
below_step i low count e es Less was within later found = later found
below_step i low count e es Equal was within later found = grind (arith, common_steps, was)
below_step i low count e es Greater was within later found = later found

has_row_below : (i low count : ℕ) (rows : Table InterfaceRow) → InterfacesRise low count rows
    → is_some (lookup (is_at (key_cmp (iface_key i))) rows) ≡ true → i < count
has_row_below i low count [] h found = cc
has_row_below i low count (e ∷ es) h found =
    below_step i low count e es (nat_cmp i (iface_in e.0)) refl h.2 (has_row_below i (iface_in e.0 + 1) count es h.3)
    (sym (ap (λ (o : Ordering). is_some (cond (is_eq o) (Some e.1) (lookup (is_at (key_cmp (iface_key i))) es)))
    (iface_cmp i e.0 h.0)) ∙ found)

pub up_is_configured : (configured : List InterfaceConfig) (i : ℕ) (rows : Table InterfaceRow) → IsHeld configured rows
    → has_row rows (iface_key i) ≡ true → i < length configured
unfolding has_row row_at
up_is_configured configured i rows h up = has_row_below i 0 (length configured) rows h.rise up

-- a row more
put_step : (low count i : ℕ) (row : InterfaceRow) (e : Key × InterfaceRow) (es : Table InterfaceRow) (o : Ordering)
    → nat_cmp i (iface_in e.0) ≡ o → low ≤ i → i < count → InterfacesRise low count (e ∷ es)
    → ((lower : ℕ) → lower ≤ i → InterfacesRise lower count es
    → InterfacesRise lower count (insert_entry key_cmp es (iface_key i) row))
    → InterfacesRise low count
    (match_ordering o ((iface_key i, row) ∷ e ∷ es) ((e.0, row) ∷ es) (e ∷ insert_entry key_cmp es (iface_key i) row))
put_step low count i row e es Less was le within h later =
    let below : i < iface_in e.0 = grind (arith, common_steps, was) in
    (refl, le, within, (h.0, omega arith, h.2, h.3))
put_step low count i row e es Equal was le within h later = h
put_step low count i row e es Greater was le within h later =
    let above : iface_in e.0 < i = grind (arith, common_steps, was) in
    (h.0, h.1, h.2, later _ (omega arith) h.3)

pub InterfacesRise-put : (low count i : ℕ) (row : InterfaceRow) (rows : Table InterfaceRow) → low ≤ i → i < count
    → InterfacesRise low count rows
    → InterfacesRise low count (insert_entry key_cmp rows (iface_key i) row)
InterfacesRise-put low count i row [] le within h = (refl, le, within, tt)
InterfacesRise-put low count i row (e ∷ es) le within h =
    rw (iface_cmp i e.0 h.0)
    (put_step low count i row e es (nat_cmp i (iface_in e.0)) refl le within h
    (λ lower under from. InterfacesRise-put lower count i row es under within from))

pub held_after_put : (configured : List InterfaceConfig) (i : ℕ) (row : InterfaceRow) (old new : Table InterfaceRow)
    (E : Type 0)
    (r : Result (Unit {0}) E) → i < length configured → IsHeld configured old → OnOk r (new ≡ put old (iface_key i) row)
    → OnErr r (new ≡ old) → IsHeld configured new
unfolding put
held_after_put configured i row old new E (Ok done) within h ok err =
    rw ok (record {
      within = h.within;
      rise = InterfacesRise-put 0 (length configured) i row old
          (omega arith) within h.rise;
    })
held_after_put configured i row old new E (Err refused) within h ok err = rw err h

-- ---- one row changed

module _ (f : InterfaceRow → InterfaceRow) (i : ℕ) where
  -- an entry with the interface's row as f makes it
  pub mapped_entry : Key × InterfaceRow → Key × InterfaceRow
  mapped_entry e = cond (is_on i e.0) (e.0, f e.1) e

  -- the rows past the interface stay
  past_step : (e : Key × InterfaceRow) (es : Table InterfaceRow) (b : Bool) → b ≡ false → map mapped_entry es ≡ es
      → cond b (e.0, f e.1) e ∷ map mapped_entry es ≡ e ∷ es
  past_step e es true apart h = cc
  past_step e es false apart h = ap (λ (xs : Table InterfaceRow). e ∷ xs) h

  mapped-past : (low count : ℕ) (rows : Table InterfaceRow) → i < low → InterfacesRise low count rows
      → map mapped_entry rows ≡ rows
  unfolding mapped_entry
  mapped-past low count [] below h = refl
  mapped-past low count (e ∷ es) below h =
      past_step e es (is_on i e.0) (grind (arith, common_steps, h.1))
      (mapped-past (iface_in e.0 + 1) count es (omega (arith, h.1)) h.3)

  -- a row at another key isn't changed where a row is put in its place
  changed_past : (row : InterfaceRow) (e : Key × InterfaceRow) (b : Bool) → same_key (iface_key i) e.0 ≡ b → b ≡ false
      → changed_entry (λ old. Some row) (iface_key i) e ≡ Some e
  unfolding changed_entry
  changed_past row e true is apart = cc
  changed_past row e false is apart = rw is refl

  iface_apart : (e : Key × InterfaceRow) → e.0 ≡ iface_key (iface_in e.0) → (i ≡ iface_in e.0 → ⊥)
      → same_key (iface_key i) e.0 ≡ false
  iface_apart e key apart = rw (iface_cmp i e.0 key) (grind (arith, common_steps, apart))

  changed-past : (row : InterfaceRow) (low count : ℕ) (rows : Table InterfaceRow) → i < low
      → InterfacesRise low count rows
      → change_row (λ old. Some row) (iface_key i) rows ≡ rows
  unfolding change_row
  changed-past row low count [] below h = refl
  changed-past row low count (e ∷ es) below h =
      let apart : same_key (iface_key i) e.0 ≡ false = iface_apart e h.0 (λ same. omega (arith, h.1)) in
      rw (changed_past row e (same_key (iface_key i) e.0) refl apart)
      (ap (λ (xs : Table InterfaceRow). e ∷ xs) (changed-past row (iface_in e.0 + 1) count es (omega (arith, h.1)) h.3))

  -- a key of the interface is its own
  on_order : (j : ℕ) (o : Ordering) → nat_cmp i j ≡ o → eqb j i ≡ is_eq o
  on_order j Less was = grind (arith, common_steps, was)
  on_order j Equal was = grind (arith, common_steps, was)
  on_order j Greater was = grind (arith, common_steps, was)

  is_on-key : (e : Key × InterfaceRow) → e.0 ≡ iface_key (iface_in e.0) → is_on i e.0 ≡ same_key (iface_key i) e.0
  is_on-key e key = on_order (iface_in e.0) (nat_cmp i (iface_in e.0)) refl ∙ sym (ap is_eq (iface_cmp i e.0 key))

  past_same : (row : InterfaceRow) (count : ℕ) (e : Key × InterfaceRow) (es : Table InterfaceRow)
      → e.0 ≡ iface_key (iface_in e.0) → InterfacesRise (iface_in e.0 + 1) count es → same_key (iface_key i) e.0 ≡ true
      → change_row (λ old. Some row) (iface_key i) es ≡ map mapped_entry es
  past_same row count e es key from same =
      let here : iface_in e.0 ≡ i = grind (arith, common_steps, is_on-key e key ∙ same) in
      let below : i < iface_in e.0 + 1 = omega arith in
      changed-past row (iface_in e.0 + 1) count es below from ∙ sym (mapped-past (iface_in e.0 + 1) count es below from)

  -- the row that is there is changed in its place
  found_step : (row : InterfaceRow) (e : Key × InterfaceRow) (es changed mapped : Table InterfaceRow) (b : Bool)
      → (b ≡ true → changed ≡ mapped) → (row_at es (iface_key i) ≡ Some row → changed ≡ mapped)
      → cond b (Some e.1) (row_at es (iface_key i)) ≡ Some row
      → cons_option (cond b (Some (e.0, f row)) (Some e)) changed ≡ cond b (e.0, f e.1) e ∷ mapped
  found_step row e es changed mapped true past later found =
      let row_is : e.1 ≡ row = cc in
      let rest : changed ≡ mapped = past refl in
      rw (row_is, rest) refl
  found_step row e es changed mapped false past later found = ap (λ (xs : Table InterfaceRow). e ∷ xs) (later found)

  pub changed_is_mapped : (row : InterfaceRow) (low count : ℕ) (rows : Table InterfaceRow)
      → InterfacesRise low count rows
      → row_at rows (iface_key i) ≡ Some row
      → change_row (λ old. Some (f row)) (iface_key i) rows ≡ map mapped_entry rows
  unfolding change_row changed_entry mapped_entry row_at
  changed_is_mapped row low count [] h found = refl
  changed_is_mapped row low count (e ∷ es) h found =
      rw (is_on-key e h.0)
      (found_step row e es _ _ (same_key (iface_key i) e.0) (past_same (f row) count e es h.0 h.3)
      (changed_is_mapped row (iface_in e.0 + 1) count es h.3) found)

  -- nothing is changed where there is no row
  missing_step : (e : Key × InterfaceRow) (es : Table InterfaceRow) (b : Bool)
      → (row_at es (iface_key i) ≡ None → map mapped_entry es ≡ es)
      → cond b (Some e.1) (row_at es (iface_key i)) ≡ None
      → cond b (e.0, f e.1) e ∷ map mapped_entry es ≡ e ∷ es
  missing_step e es true later missing = cc
  missing_step e es false later missing = ap (λ (xs : Table InterfaceRow). e ∷ xs) (later missing)

  pub mapped-missing : (low count : ℕ) (rows : Table InterfaceRow) → InterfacesRise low count rows
      → row_at rows (iface_key i) ≡ None → map mapped_entry rows ≡ rows
  unfolding mapped_entry row_at
  mapped-missing low count [] h missing = refl
  mapped-missing low count (e ∷ es) h missing =
      rw (is_on-key e h.0)
      (missing_step e es (same_key (iface_key i) e.0) (mapped-missing (iface_in e.0 + 1) count es h.3) missing)

  -- the keys stay
  from_step : (low count : ℕ) (e : Key × InterfaceRow) (mapped : Table InterfaceRow) (b : Bool)
      → (e.0 ≡ iface_key (iface_in e.0)) × (low ≤ iface_in e.0) × (iface_in e.0 < count)
      × InterfacesRise (iface_in e.0 + 1) count mapped
      → InterfacesRise low count (cond b (e.0, f e.1) e ∷ mapped)
  from_step low count e mapped true h = h
  from_step low count e mapped false h = h

  pub InterfacesRise-mapped : (low count : ℕ) (rows : Table InterfaceRow) → InterfacesRise low count rows
      → InterfacesRise low count (map mapped_entry rows)
  unfolding mapped_entry
  InterfacesRise-mapped low count [] h = tt
  InterfacesRise-mapped low count (e ∷ es) h =
      from_step low count e (map mapped_entry es) (is_on i e.0)
      (h.0, h.1, h.2, InterfacesRise-mapped (iface_in e.0 + 1) count es h.3)

-- ---- the two changes of the Hello state, and the end of a row

abbrev pub owing : ℕ → InterfaceRow → InterfaceRow
owing end row = record row { hello_end = min row.hello_end end; is_hello_owed = true }

abbrev pub paid : InterfaceRow → InterfaceRow
paid row = record row { is_hello_owed = false }

-- what stays true of the rows, and what they are
pub record Becomes (configured : List InterfaceConfig) (new wanted : Table InterfaceRow) : Type 0 where
  pub held : IsHeld configured new
  pub same : new ≡ wanted

module _ (configured : List InterfaceConfig) (i : ℕ) (rows : Table InterfaceRow) where
  becomes : (f : InterfaceRow → InterfaceRow) (new : Table InterfaceRow) → IsHeld configured rows
      → new ≡ map (mapped_entry f i) rows
      → Becomes configured new (map (mapped_entry f i) rows)
  becomes f new h e = record {
    held = record { within = h.within; rise = rw e (InterfacesRise-mapped f i 0 (length configured) rows h.rise) };
    same = e;
  }

  pub owing_there : (end : ℕ) (row : InterfaceRow) (new : Table InterfaceRow) → IsHeld configured rows
      → row_at rows (iface_key i) ≡ Some row
      → new ≡ change_row (λ old. Some (owing end row)) (iface_key i) rows
      → Becomes configured new (hellos_triggered i end rows)
  unfolding hellos_triggered mapped_entry
  owing_there end row new h found e =
      becomes (owing end) new h (e ∙ changed_is_mapped (owing end) i row 0 (length configured) rows h.rise found)

  pub owing_missing : (end : ℕ) → IsHeld configured rows → row_at rows (iface_key i) ≡ None
      → rows ≡ hellos_triggered i end rows
  unfolding hellos_triggered mapped_entry
  owing_missing end h missing = sym (mapped-missing (owing end) i 0 (length configured) rows h.rise missing)

  pub paid_there : (row : InterfaceRow) (new : Table InterfaceRow) → IsHeld configured rows
      → row_at rows (iface_key i) ≡ Some row
      → new ≡ change_row (λ old. Some (paid row)) (iface_key i) rows → Becomes configured new (hellos_paid i rows)
  unfolding hellos_paid mapped_entry
  paid_there row new h found e =
      becomes paid new h (e ∙ changed_is_mapped paid i row 0 (length configured) rows h.rise found)

  pub paid_missing : IsHeld configured rows → row_at rows (iface_key i) ≡ None → rows ≡ hellos_paid i rows
  unfolding hellos_paid mapped_entry
  paid_missing h missing = sym (mapped-missing paid i 0 (length configured) rows h.rise missing)

  -- the interface's row is the one that goes
  drop_step : (e : Key × InterfaceRow) (left mapped : Table InterfaceRow) (b c : Bool) → b ≡ c → left ≡ mapped
      → cond (not b) (e ∷ left) left ≡ cond (not c) (e ∷ mapped) mapped
  drop_step e left mapped b c same rest = rw (same, rest) refl

  dropped : (low : ℕ) (t : Table InterfaceRow) → InterfacesRise low (length configured) t
      → drop_at t (iface_key i) ≡ drop_where (is_on i) t
  unfolding drop_at drop_where
  dropped low [] h = refl
  dropped low (e ∷ es) h =
      drop_step e _ _ (same_key (iface_key i) e.0) (is_on i e.0) (sym (is_on-key (λ row. row) i e h.0))
      (dropped (iface_in e.0 + 1) es h.3)

  from_left_step : (low : ℕ) (e : Key × InterfaceRow) (left : Table InterfaceRow) (b : Bool)
      → (e.0 ≡ iface_key (iface_in e.0)) × (low ≤ iface_in e.0) × (iface_in e.0 < (length configured))
      × InterfacesRise (iface_in e.0 + 1) (length configured) left
      → InterfacesRise low (length configured) (cond b (e ∷ left) left)
  from_left_step low e left true h = h
  from_left_step low e left false h =
      InterfacesRise-lower (iface_in e.0 + 1) low (length configured) left (omega (arith, h.1)) h.3

  from_left : (low : ℕ) (t : Table InterfaceRow) → InterfacesRise low (length configured) t
      → InterfacesRise low (length configured) (drop_where (is_on i) t)
  unfolding drop_where
  from_left low [] h = tt
  from_left low (e ∷ es) h =
      from_left_step low e _ (not (is_on i e.0)) (h.0, h.1, h.2, from_left (iface_in e.0 + 1) es h.3)

  pub row_dropped : (new : Table InterfaceRow) → IsHeld configured rows → new ≡ drop_at rows (iface_key i)
      → Becomes configured new (drop_where (is_on i) rows)
  row_dropped new h e =
      let same : new ≡ drop_where (is_on i) rows = e ∙ dropped 0 rows h.rise in
      record {
        held = record { within = h.within; rise = rw same (from_left 0 rows h.rise) };
        same = same;
      }

-- ---- a change that memory may be refused to

-- what stays true of the rows, and what they are where memory was there
pub record Settles (configured : List InterfaceConfig) (E : Type 0) (r : Result (Unit {0}) E)
    (new wanted : Table InterfaceRow) : Type 0 where
  pub held : IsHeld configured new
  pub ok : OnOk r (new ≡ wanted)

module _ (configured : List InterfaceConfig) (rows : Table InterfaceRow) where
  pub settled : (E : Type 0) (r : Result (Unit {0}) E) (new changed wanted : Table InterfaceRow)
      → IsHeld configured rows → (new ≡ changed → Becomes configured new wanted)
      → OnOk r (new ≡ changed) → OnErr r (new ≡ rows) → Settles configured E r new wanted
  settled E (Ok done) new changed wanted h becomes ok err =
      record { held = (becomes ok).held; ok = (becomes ok).same }
  settled E (Err refused) new changed wanted h becomes ok err = record { held = rw err h; ok = tt }

-- a row changed leaves the keys
module _ (k : Key) (row : InterfaceRow) where
  set_step : (low count : ℕ) (e : Key × InterfaceRow) (changed : Table InterfaceRow) (b : Bool)
      → (e.0 ≡ iface_key (iface_in e.0)) × (low ≤ iface_in e.0) × (iface_in e.0 < count)
      × InterfacesRise (iface_in e.0 + 1) count changed
      → InterfacesRise low count (cons_option (cond b (Some (e.0, row)) (Some e)) changed)
  set_step low count e changed true h = h
  set_step low count e changed false h = h

  InterfacesRise-set : (low count : ℕ) (rows : Table InterfaceRow) → InterfacesRise low count rows
      → InterfacesRise low count (change_row (λ _. Some row) k rows)
  unfolding change_row changed_entry
  InterfacesRise-set low count [] h = tt
  InterfacesRise-set low count (e ∷ es) h =
      set_step low count e _ (same_key k e.0) (h.0, h.1, h.2, InterfacesRise-set (iface_in e.0 + 1) count es h.3)

  pub row_set : (configured : List InterfaceConfig) (rows new : Table InterfaceRow) → IsHeld configured rows
      → new ≡ change_row (λ _. Some row) k rows → Becomes configured new (change_row (λ _. Some row) k rows)
  row_set configured rows new h e = record {
    held = record { within = h.within; rise = rw e (InterfacesRise-set 0 (length configured) rows h.rise) };
    same = e;
  }

-- the rows as those of a table of interfaces
pub with_rows : (configured : Addressing) (E : Type 0) (r : Result (Unit {0}) E)
    (new wanted : Table InterfaceRow)
    → OnOk r (new ≡ wanted)
    → let table : Table InterfaceRow → InterfaceTable = λ rows. record { configured = configured; rows = rows } in
    OnOk r (table new ≡ table wanted)
with_rows configured E (Ok done) new wanted e =
    ap (λ (rows : Table InterfaceRow). let t : InterfaceTable = record { configured = configured; rows = rows } in t) e
with_rows configured E (Err refused) new wanted e = tt
