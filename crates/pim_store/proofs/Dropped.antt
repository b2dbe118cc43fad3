-- The marks of an interface's rows, taken away row by row.
use Rattle.std.{proofs.{Common.{◌≡◌, ℕ, ◌&&◌, ◌||◌, Bool, true, false, cond, [], ◌∷◌, ◌++◌, Option, Some, None, is_some, refl, sym, ap, ◌∙◌}, lemmas.List.{append_assoc, append-nil}}}
use Rattle.pim_types.{specs.{declared.fact.Key.Key, Keys.{is_on, same_key}}, proofs.Keys.{equal_keys, same_key_same}}
use Rattle.pim_model.{specs.Tables.{Table, drop_where, has_row, row_at}}
use Rattle.pim_tables.{proofs.Lookups.{has_row-last, row_at-drop_on}}
use Rattle.pim_store.{specs.{Said.{IsTold, KeepsOtherMarks, SetsMarks, place, row_says, said}, declared.marks.{Mark.Mark, Marks.Marks}}, proofs.Told.others_kept}

-- a row among others is found
module _ {R : Type 0} (k : Key) (r : R) (later : Table R) where
  found_step : (e : Key × R) (xs : Table R) (b : Bool) → has_row (xs ++ (k, r) ∷ later) k ≡ true
      → is_some (cond b (Some e.1) (row_at (xs ++ (k, r) ∷ later) k)) ≡ true
  unfolding has_row
  found_step e xs true there = refl
  found_step e xs false there = there

  pub row_among : (xs : Table R) → has_row (xs ++ (k, r) ∷ later) k ≡ true
  unfolding has_row row_at
  row_among [] = rw (same_key_same k) refl
  row_among (e ∷ xs) = found_step e xs (same_key k e.0) (row_among xs)

-- one more row is seen: its mark is taken away where it is on the interface
taken : (s on seen e : Bool) → (s ≡ true → on ≡ true) → cond s false (cond (on && seen) false e)
    ≡ cond (on && (seen || s)) false e
taken true true true e here = refl
taken true true false e here = refl
taken true false seen e here = cc (here refl)
taken false true true e here = refl
taken false true false e here = refl
taken false false seen e here = refl

left : (s on seen e : Bool) → (s ≡ true → on ≡ false) → cond (on && seen) false e ≡ cond (on && (seen || s)) false e
left true true seen e here = cc (here refl)
left true false seen e here = refl
left false on true e here = refl
left false on false e here = refl

module _ {R : Type 0} (tells : Mark → Bool) (says : Mark → R → Bool) (fits : Key → Bool) (n : ℕ) where
  abbrev saying : Mark → Option R → Bool
  saying x row = row_says tells says x row

  -- of the rows, these are still to be seen
  pub record IsUnmarked (before m : Table Marks) (rows rest : Table R) : Type 0 where
    pub seen : Table R
    pub all_rows : seen ++ rest ≡ rows
    pub set : (x : Mark) → tells x ≡ true → (i g : ℕ) (s : Option ℕ)
        → said m x i g s
        ≡ cond (is_on n (place x i g s) && has_row seen (place x i g s)) false (saying x (row_at rows (place x i g s)))
    pub others : KeepsOtherMarks tells before m

  pub at_first : (m : Table Marks) (rows rest : Table R) → rest ≡ rows → IsTold tells says fits m rows
      → IsUnmarked m m rows rest
  unfolding has_row row_at
  at_first m rows rest is told = record {
    seen = [];
    all_rows = is;
    set = λ x here i g s. told.told x here i g s ∙ none (is_on n (place x i g s)) _;
    others = λ x other i g s. refl;
  }
    where
      none : (b e : Bool) → e ≡ cond (b && false) false e
      none true e = refl
      none false e = refl

  module _ (before m : Table Marks) (rows rest later : Table R) (k : Key) (r : R)
      (unmarked : IsUnmarked before m rows rest) (is : rest ≡ (k, r) ∷ later) where
    abbrev more : Table R
    more = unmarked.seen ++ (k, r) ∷ []

    all_more : more ++ later ≡ rows
    all_more =
        append_assoc unmarked.seen ((k, r) ∷ []) later ∙ ap (λ xs. unmarked.seen ++ xs) (sym is) ∙ unmarked.all_rows

    pub fits_here : IsTold tells says fits before rows → fits k ≡ true
    fits_here told =
        told.fit k (ap (λ (xs : Table R). has_row xs k) (sym unmarked.all_rows ∙ ap (λ xs. unmarked.seen ++ xs) is)
        ∙ row_among k r later unmarked.seen)

    at_key : (b : Bool) → is_on n k ≡ b → (q : Key) → same_key q k ≡ true → is_on n q ≡ b
    at_key b on q same = ap (λ (x : Key). is_on n x) (equal_keys q k same) ∙ on

    now_seen : (x : Mark) (q : Key)
        → cond (is_on n q && (has_row unmarked.seen q || same_key q k)) false (saying x (row_at rows q))
        ≡ cond (is_on n q && has_row more q) false (saying x (row_at rows q))
    now_seen x q =
        ap (λ (b : Bool). cond (is_on n q && b) false (saying x (row_at rows q)))
        (sym (has_row-last q k r unmarked.seen))

    pub another : is_on n k ≡ false → IsUnmarked before m rows later
    another on = record {
      seen = more;
      all_rows = all_more;
      set = λ x here i g s.
          unmarked.set x here i g s
          ∙ left (same_key (place x i g s) k) (is_on n (place x i g s)) (has_row unmarked.seen (place x i g s))
          (saying x (row_at rows (place x i g s))) (at_key false on (place x i g s))
          ∙ now_seen x (place x i g s);
      others = unmarked.others;
    }

    pub unmarked_here : (m' : Table Marks) → is_on n k ≡ true → SetsMarks tells says m m' k None
        → IsUnmarked before m' rows later
    unmarked_here m' on out = record {
      seen = more;
      all_rows = all_more;
      set = λ x here i g s.
          out x i g s
          ∙ ap (λ (b : Bool). cond (b && same_key (place x i g s) k) false (said m x i g s)) here
          ∙ ap (λ (v : Bool). cond (same_key (place x i g s) k) false v) (unmarked.set x here i g s)
          ∙ taken (same_key (place x i g s) k) (is_on n (place x i g s)) (has_row unmarked.seen (place x i g s))
          (saying x (row_at rows (place x i g s))) (at_key true on (place x i g s))
          ∙ now_seen x (place x i g s);
      others = λ x other i g s.
          others_kept tells says k None m m' out x other i g s ∙ unmarked.others x other i g s;
    }

  over : (x : Mark) (on : Bool) (o : Option R) → cond (on && is_some o) false (saying x o) ≡ saying x (cond on None o)
  over x true None = refl
  over x true (Some r) = refl
  over x false o = refl

  still_there : (on : Bool) (o : Option R) → is_some (cond on None o) ≡ true → is_some o ≡ true
  still_there true o there = cc
  still_there false o there = there

  module _ (before m : Table Marks) (rows rest : Table R) (is : rest ≡ []) (unmarked : IsUnmarked before m rows rest)
    where
      all_seen : unmarked.seen ≡ rows
      all_seen = sym (append-nil unmarked.seen) ∙ ap (λ xs. unmarked.seen ++ xs) (sym is) ∙ unmarked.all_rows

      pub all_unmarked : IsTold tells says fits before rows → IsTold tells says fits m (drop_where (is_on n) rows)
      unfolding has_row
      all_unmarked told = record {
        told = λ x here i g s.
            unmarked.set x here i g s
            ∙ ap (λ (xs : Table R). cond (is_on n (place x i g s) && has_row xs (place x i g s)) false
            (saying x (row_at rows (place x i g s)))) all_seen
            ∙ over x (is_on n (place x i g s)) (row_at rows (place x i g s))
            ∙ ap (λ (o : Option R). saying x o) (sym (row_at-drop_on n (place x i g s) rows));
        fit = λ q there. told.fit q
            (still_there (is_on n q) (row_at rows q) (ap is_some (sym (row_at-drop_on n q rows)) ∙ there));
      }
