-- Rows that go to other places: what holds of each, that keys rise, and what is found.
use Rattle.std.{proofs.Common.{◌≡◌, ℕ, Bool, true, false, cond, List, [], ◌∷◌, ◌||◌, ◌∙◌, Option, Some, None, refl, sym, ap, subst}, specs.{List.{AllByRecursion, list_any}, Ordering.is_eq}}
use Rattle.pim_types.{specs.{declared.fact.Key.Key, Keys.{iface_in, same_key}}, proofs.Keys.{equal_keys, same_key_same}}
use Rattle.pim_model.{specs.Tables.{Table, has_row, put, row_at}}
use Rattle.law_settled.{specs.Ready.Rises, proofs.{FineTables.{Fine}, ListLaws.{each_more}, RisingKeys.{IsBelow, Up, up_of_sorted, up_put}, RowLaws.{each_put, has_row_any, has_row_put, row_put, row_put_away}}}
use Rattle.law_states.{specs.{PlacedLaws.{AreApart, FactsGoWithTheirLink}, Placing.{placed_key, placed, placed_under, put_placed}}}

module _ {R : Type 0} (places : List ℕ) where
  -- ---- each row, and the order

  module _ (P Q : Key × R → Type 0) (goes : (e : Key × R) → P e → Q (placed_key places e.0, e.1)) where
    each_put_placed : (t rows : Table R) → AllByRecursion Q t → AllByRecursion P rows
        → AllByRecursion Q (put_placed places t rows)
    each_put_placed t [] f g = f
    each_put_placed t (e ∷ rows) f g =
        each_put_placed (put t (placed_key places e.0) e.1) rows
        (each_put (placed_key places e.0) e.1 Q (goes e g.0) t f) g.1

    pub each_placed : (rows : Table R) → AllByRecursion P rows → AllByRecursion Q (placed places rows)
    each_placed rows g = each_put_placed [] rows tt g

  up_put_placed : (t rows : Table R) → Up t → Up (put_placed places t rows)
  up_put_placed t [] u = u
  up_put_placed t (e ∷ rows) u = up_put_placed (put t (placed_key places e.0) e.1) rows (up_put (placed_key places e.0) e.1 t u)

  pub up_placed : (rows : Table R) → Up (placed places rows)
  up_placed rows = up_put_placed [] rows tt

  pub fine_placed : (P Q : Key × R → Type 0) → ((e : Key × R) → P e → Q (placed_key places e.0, e.1)) → (rows : Table R)
      → Fine P rows → Fine Q (placed places rows)
  fine_placed P Q goes rows f = record { up = up_placed rows; each = each_placed P Q goes rows f.each }

  -- ---- what is there

  still_there : (k : Key) (t rows : Table R) → has_row t k ≡ true → has_row (put_placed places t rows) k ≡ true
  still_there k t [] h = h
  still_there k t (e ∷ rows) h =
      still_there k (put t (placed_key places e.0) e.1) rows
      (has_row_put k (placed_key places e.0) e.1 t ∙ right (same_key k (placed_key places e.0)) (has_row t k) h)
    where
      right : (a b : Bool) → b ≡ true → (a || b) ≡ true
      right true b e = refl
      right false b e = e

  goes_there : (k : Key) (t rows : Table R) → list_any (λ e. same_key k e.0) rows ≡ true
      → has_row (put_placed places t rows) (placed_key places k) ≡ true
  goes_there k t [] h = cc
  goes_there k t (e ∷ rows) h =
      by (same_key k e.0) refl (goes_there k (put t (placed_key places e.0) e.1) rows) h
    where
      here : same_key k e.0 ≡ true → has_row (put t (placed_key places e.0) e.1) (placed_key places k) ≡ true
      here same =
          has_row_put (placed_key places k) (placed_key places e.0) e.1 t
          ∙ ap (λ (b : Bool). b || has_row t (placed_key places k))
          (subst (λ (q : Key). same_key (placed_key places k) (placed_key places q) ≡ true) (equal_keys k e.0 same)
          (same_key_same (placed_key places k)))

      by : (b : Bool) → same_key k e.0 ≡ b
          → (list_any (λ x. same_key k x.0) rows ≡ true
          → has_row (put_placed places (put t (placed_key places e.0) e.1) rows) (placed_key places k) ≡ true)
          → (b || list_any (λ x. same_key k x.0) rows) ≡ true
          → has_row (put_placed places (put t (placed_key places e.0) e.1) rows) (placed_key places k) ≡ true
      by true same later h = still_there (placed_key places k) (put t (placed_key places e.0) e.1) rows (here same)
      by false other later h = later h

  pub has_placed : (k : Key) (rows : Table R) → has_row rows k ≡ true → has_row (placed places rows) (placed_key places k) ≡ true
  has_placed k rows h = goes_there k [] rows (sym (has_row_any k rows) ∙ h)

-- ---- what is found

module _ (places : List ℕ) (apart : AreApart places) where
  -- keys that go to one place are one
  same_before : (k q : Key) → placed_key places k ≡ placed_key places q → k ≡ q
  same_before k q e =
      let number : iface_in k ≡ iface_in q =
      apart (iface_in k) (iface_in q) (ap (λ (x : Key). iface_in x) e) in
      λ j. record {
        iface = record { number = number j };
        group = (e j).group;
        source = (e j).source;
        rpt = (e j).rpt;
      }

  other_key : (k q : Key) → same_key k q ≡ false → placed_key places q ≡ placed_key places k → ⊥
  other_key k q other e = cc (sym (same_key_same k) ∙ ap (same_key k) (sym (same_before q k e)) ∙ other)

module _ {R : Type 0} (places : List ℕ) (apart : AreApart places) where
  abbrev Others : Key → Table R → Type 0
  Others k rows = AllByRecursion (λ (e : Key × R). same_key k e.0 ≡ false) rows

  others_leave : (k : Key) (t rows : Table R) → Others k rows
      → row_at (put_placed places t rows) (placed_key places k) ≡ row_at t (placed_key places k)
  others_leave k t [] f = refl
  others_leave k t (e ∷ rows) f =
      others_leave k (put t (placed_key places e.0) e.1) rows f.1
      ∙ row_put_away (placed_key places e.0) (placed_key places k) (other_key places apart k e.0 f.0) e.1 t

  -- no later row is under the key
  others_later : (k q : Key) → same_key k q ≡ true → (rows : Table R) → AllByRecursion (IsBelow q) rows → Others k rows
  others_later k q same rows f =
      each_more (IsBelow q) (λ e. same_key k e.0 ≡ false)
      (λ e below. ap (λ (x : Key). same_key x e.0) (equal_keys k q same) ∙ ap is_eq below) rows f

  finds : (k : Key) (t rows : Table R) (o : Option R) → Up rows → row_at rows k ≡ o → row_at t (placed_key places k) ≡ None
      → row_at (put_placed places t rows) (placed_key places k) ≡ o
  unfolding row_at
  finds k t [] o u e none = none ∙ e
  finds k t (x ∷ rows) o u e none =
      by (same_key k x.0) refl (finds k (put t (placed_key places x.0) x.1) rows o u.1) e
    where
      by : (b : Bool) → same_key k x.0 ≡ b
          → (row_at rows k ≡ o → row_at (put t (placed_key places x.0) x.1) (placed_key places k) ≡ None
          → row_at (put_placed places (put t (placed_key places x.0) x.1) rows) (placed_key places k) ≡ o)
          → cond b (Some x.1) (row_at rows k) ≡ o
          → row_at (put_placed places (put t (placed_key places x.0) x.1) rows) (placed_key places k) ≡ o
      by true same later e =
          others_leave k (put t (placed_key places x.0) x.1) rows (others_later k x.0 same rows u.0)
          ∙ ap (λ (q : Key). row_at (put t (placed_key places q) x.1) (placed_key places k)) (sym (equal_keys k x.0 same))
          ∙ row_put (placed_key places k) x.1 t ∙ e
      by false other later e =
          later e
          (row_put_away (placed_key places x.0) (placed_key places k) (other_key places apart k x.0 other) x.1 t ∙ none)

pub row_goes : {R : Type 0} (places : List ℕ) (t : Table R) (k : Key) → AreApart places → Rises t
    → row_at (placed places t) (placed_key places k) ≡ row_at t k
unfolding row_at
row_goes places t k apart rises = finds places apart k [] t (row_at t k) (up_of_sorted t rises) refl refl

pub facts_go_with_their_link : FactsGoWithTheirLink
unfolding placed_under
facts_go_with_their_link s places c k apart h = record {
  interfaces = row_goes places s.interfaces k apart h.interfaces;
  neighbours = row_goes places s.neighbours k apart h.neighbours;
  queriers = row_goes places s.queriers k apart h.queriers;
  group_records = row_goes places s.group_records k apart h.group_records;
  source_records = row_goes places s.source_records k apart h.source_records;
  group_repeats = row_goes places s.group_repeats k apart h.group_repeats;
  source_repeats = row_goes places s.source_repeats k apart h.source_repeats;
  sendings = row_goes places s.sendings k apart h.sendings;
  downstream = row_goes places s.downstream k apart h.downstream;
  asserts = row_goes places s.asserts k apart h.asserts;
}
