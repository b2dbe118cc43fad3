-- Rows where their interfaces go: what is found of them.
use Rattle.std.{proofs.Common.{◌≡◌, ℕ, Bool, true, false, cond, [], ◌∷◌, ◌∙◌, Option, Some, None, refl, sym, ap}, specs.{List.AllByRecursion, Ordering.is_eq}}
use Rattle.pim_types.{specs.{declared.fact.Key.Key, Keys.{iface_in, same_key}}, proofs.Keys.{equal_keys, same_key_same}}
use Rattle.pim_model.{specs.Tables.{Table, put, row_at}}
use Rattle.law_settled.{proofs.{ListLaws.each_more, RisingKeys.{IsBelow, Up, up_of_sorted}, RowLaws.{row_put, row_put_away}}}
use Rattle.igmp_older.{specs.{Laws.{GoApart, NoRowElsewhere, RowsGoWithTheirLink}, Placed.{NewPlaces, new_place, on_place, placed_rows, put_at, put_placed}, declared.mode.PresentRow.PresentRow}}

abbrev Rows : Type 0
Rows = Table PresentRow

module _ (places : NewPlaces) where
  -- what a number is for a key that isn't there
  elsewhere_step : (k : Key) (none : (i : ℕ) → new_place places i ≡ Some (iface_in k) → ⊥) (t : Rows) (e : Key × PresentRow)
      (o : Option ℕ) → new_place places (iface_in e.0) ≡ o → row_at (put_at t e o) k ≡ row_at t k
  elsewhere_step k none t e None is = refl
  elsewhere_step k none t e (Some m) is =
      row_put_away (on_place e.0 m) k
      (λ same. none (iface_in e.0) (is ∙ ap (λ (x : Key). Some (iface_in x)) same)) e.1 t

  elsewhere_leaves : (k : Key) (none : (i : ℕ) → new_place places i ≡ Some (iface_in k) → ⊥) (t rows : Rows)
      → row_at (put_placed places t rows) k ≡ row_at t k
  elsewhere_leaves k none t [] = refl
  elsewhere_leaves k none t (e ∷ rows) =
      elsewhere_leaves k none (put_at t e (new_place places (iface_in e.0))) rows
      ∙ elsewhere_step k none t e (new_place places (iface_in e.0)) refl

module _ (places : NewPlaces) (apart : GoApart places) where
  -- keys that go to one key are one
  same_before : (k q : Key) (n m : ℕ) → new_place places (iface_in k) ≡ Some n → new_place places (iface_in q) ≡ Some m
      → on_place k n ≡ on_place q m → k ≡ q
  same_before k q n m a b e =
      let same : n ≡ m = ap (λ (x : Key). iface_in x) e in
      let number : iface_in k ≡ iface_in q =
      apart (iface_in k) (iface_in q) n a (b ∙ ap (λ (i : ℕ). Some i) (sym same)) in
      λ j. record {
        iface = record { number = number j };
        group = (e j).group;
        source = (e j).source;
        rpt = (e j).rpt;
      }

  other_key : (k q : Key) (n m : ℕ) → new_place places (iface_in k) ≡ Some n → new_place places (iface_in q) ≡ Some m
      → same_key k q ≡ false → on_place q m ≡ on_place k n → ⊥
  other_key k q n m a b other e =
      cc (sym (same_key_same k) ∙ ap (same_key k) (sym (same_before q k m n b a e)) ∙ other)

  put_away : (k : Key) (n : ℕ) → new_place places (iface_in k) ≡ Some n → (t : Rows) (e : Key × PresentRow) (o : Option ℕ)
      → new_place places (iface_in e.0) ≡ o → same_key k e.0 ≡ false
      → row_at (put_at t e o) (on_place k n) ≡ row_at t (on_place k n)
  put_away k n a t e None is other = refl
  put_away k n a t e (Some m) is other =
      row_put_away (on_place e.0 m) (on_place k n) (other_key k e.0 n m a is other) e.1 t

  abbrev Others : Key → Rows → Type 0
  Others k rows = AllByRecursion (λ (e : Key × PresentRow). same_key k e.0 ≡ false) rows

  others_leave : (k : Key) (n : ℕ) → new_place places (iface_in k) ≡ Some n → (t rows : Rows) → Others k rows
      → row_at (put_placed places t rows) (on_place k n) ≡ row_at t (on_place k n)
  others_leave k n a t [] f = refl
  others_leave k n a t (e ∷ rows) f =
      others_leave k n a (put_at t e (new_place places (iface_in e.0))) rows f.1
      ∙ put_away k n a t e (new_place places (iface_in e.0)) refl f.0

  -- no later row is under the key
  others_later : (k q : Key) → same_key k q ≡ true → (rows : Rows) → AllByRecursion (IsBelow q) rows → Others k rows
  others_later k q same rows f =
      each_more (IsBelow q) (λ e. same_key k e.0 ≡ false)
      (λ e below. ap (λ (x : Key). same_key x e.0) (equal_keys k q same) ∙ ap is_eq below) rows f

  -- the row of the key itself
  own_row : (k : Key) (n : ℕ) → new_place places (iface_in k) ≡ Some n → (t : Rows) (e : Key × PresentRow)
      → same_key k e.0 ≡ true → row_at (put_at t e (new_place places (iface_in e.0))) (on_place k n) ≡ Some e.1
  own_row k n a t e same =
      let here : new_place places (iface_in e.0) ≡ Some n =
      ap (λ (q : Key). new_place places (iface_in q)) (sym (equal_keys k e.0 same)) ∙ a in
      ap (λ (o : Option ℕ). row_at (put_at t e o) (on_place k n)) here
      ∙ ap (λ (q : Key). row_at (put t (on_place q n) e.1) (on_place k n)) (sym (equal_keys k e.0 same))
      ∙ row_put (on_place k n) e.1 t

  finds : (k : Key) (n : ℕ) → new_place places (iface_in k) ≡ Some n → (t rows : Rows) (o : Option PresentRow) → Up rows
      → row_at rows k ≡ o → row_at t (on_place k n) ≡ None → row_at (put_placed places t rows) (on_place k n) ≡ o
  unfolding row_at
  finds k n a t [] o u e none = none ∙ e
  finds k n a t (x ∷ rows) o u e none =
      by (same_key k x.0) refl (finds k n a (put_at t x (new_place places (iface_in x.0))) rows o u.1) e
    where
      by : (b : Bool) → same_key k x.0 ≡ b
          → (row_at rows k ≡ o → row_at (put_at t x (new_place places (iface_in x.0))) (on_place k n) ≡ None
          → row_at (put_placed places (put_at t x (new_place places (iface_in x.0))) rows) (on_place k n) ≡ o)
          → cond b (Some x.1) (row_at rows k) ≡ o
          → row_at (put_placed places (put_at t x (new_place places (iface_in x.0))) rows) (on_place k n) ≡ o
      by true same later e =
          others_leave k n a (put_at t x (new_place places (iface_in x.0))) rows (others_later k x.0 same rows u.0)
          ∙ own_row k n a t x same ∙ e
      by false other later e = later e (put_away k n a t x (new_place places (iface_in x.0)) refl other ∙ none)

pub rows_go_with_their_link : RowsGoWithTheirLink
unfolding placed_rows row_at
rows_go_with_their_link places rows k n apart rises a =
    finds places apart k n a [] rows (row_at rows k) (up_of_sorted rows rises) refl refl

pub no_row_elsewhere : NoRowElsewhere
unfolding placed_rows row_at
no_row_elsewhere places rows k none = elsewhere_leaves places k none [] rows
