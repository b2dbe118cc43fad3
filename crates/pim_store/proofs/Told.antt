-- A row is changed with its marks: afterwards the marks are again as the rows say.
use Rattle.std.{proofs.Common.{◌≡◌, ◌&&◌, ◌||◌, ℕ, Bool, true, false, cond, not, Option, Some, None, is_some, refl, sym, ap, subst, ◌∙◌}, specs.Bool.beq}
use Rattle.pim_types.{specs.{declared.fact.Key.Key, Keys.same_key}, proofs.Keys.equal_keys}
use Rattle.pim_model.{specs.Tables.{Table, drop_at, has_row, put, row_at}}
use Rattle.pim_tables.{proofs.Lookups.{row_at-drop_at, row_at-put}}
use Rattle.pim_source_trie.{specs.Entries.entry_key}
use Rattle.pim_store.{specs.{Said.{IsTold, KeepsOtherMarks, SetsMarks, is_about, is_set_by, mark_key, place, row_says, said}, Telling.is_set_by_either, declared.marks.{Mark.Mark, Marks.Marks}}, proofs.{Marked.same_mark, Places.place_is}}

module _ {R : Type 0} (tells : Mark → Bool) (says : Mark → R → Bool) where
  abbrev saying : Mark → Option R → Bool
  saying x row = row_says tells says x row

  -- ---- marks that are set twice, or not

  set_again : (c a b v : Bool) → cond c b (cond c a v) ≡ cond c b v
  set_again true a b v = refl
  set_again false a b v = refl

  pub marks_again : (k : Key) (first second : Option R) (m m1 m2 : Table Marks)
      → SetsMarks tells says m m1 k first → SetsMarks tells says m1 m2 k second → SetsMarks tells says m m2 k second
  marks_again k first second m m1 m2 one two x i g s =
      two x i g s
      ∙ ap (λ (v : Bool). cond (tells x && same_key (place x i g s) k) (saying x second) v) (one x i g s)
      ∙ set_again (tells x && same_key (place x i g s) k) (saying x first) (saying x second) (said m x i g s)

  pub others_kept : (k : Key) (row : Option R) (m m' : Table Marks) → SetsMarks tells says m m' k row
      → KeepsOtherMarks tells m m'
  others_kept k row m m' sets x is i g s =
      sets x i g s
      ∙ ap (λ (b : Bool). cond (b && same_key (place x i g s) k) (saying x row) (said m x i g s)) is

  -- ---- a row that says the same

  pub two_alike : (first second : Mark) (row before : R) → says first row ≡ says first before
      → says second row ≡ says second before → (x : Mark) (i n : ℕ) (told : Bool)
      → told ≡ is_set_by_either (first, Some second) n x i → told ≡ true → says x row ≡ says x before
  two_alike first second row before once twice x i n told by is =
      go (is_set_by first n x i) refl (is_set_by second n x i) refl (sym by ∙ is)
    where
      go : (b : Bool) → is_set_by first n x i ≡ b → (c : Bool) → is_set_by second n x i ≡ c → (b || c) ≡ true
          → says x row ≡ says x before
      go true same c f e = subst (λ (m : Mark). says m row ≡ says m before) (same_mark first x n i same) once
      go false other true same e =
          subst (λ (m : Mark). says m row ≡ says m before) (same_mark second x n i same) twice
      go false other false f e = cc

  -- ---- rows and marks together

  module _ (fits : Key → Bool) (k : Key) (m : Table Marks) (t : Table R) (told : IsTold tells says fits m t) where
    is_told : (x : Mark) (i g : ℕ) (s : Option ℕ) (row : Option R) (b : Bool) → tells x ≡ b
        → (c : Bool) → same_key (place x i g s) k ≡ c
        → b ≡ true
        → cond (b && c) (saying x row) (said m x i g s) ≡ saying x (cond c row (row_at t (place x i g s)))
    is_told x i g s row true tell true same e = refl
    is_told x i g s row true tell false other e = told.told x tell i g s
    is_told x i g s row false tell c same e = cc

    pub told_after : (row : Option R) (m' : Table Marks) (t' : Table R) → fits k ≡ true
        → SetsMarks tells says m m' k row → ((q : Key) → row_at t' q ≡ cond (same_key q k) row (row_at t q))
        → IsTold tells says fits m' t'
    unfolding has_row
    told_after row m' t' fit sets rows = record {
      told = λ x tell i g s.
          sets x i g s
          ∙ is_told x i g s row (tells x) refl (same_key (place x i g s) k) refl tell
          ∙ ap (λ (o : Option R). saying x o) (sym (rows (place x i g s)));
      fit = λ q there. go q (same_key q k) refl (ap is_some (sym (rows q)) ∙ there);
    }
      where
        go : (q : Key) (b : Bool) → same_key q k ≡ b → is_some (cond b row (row_at t q)) ≡ true → fits q ≡ true
        go q true same there = ap fits (equal_keys q k same) ∙ fit
        go q false other there = told.fit q there

    -- a row that says what the one that is there says changes no mark
    pub nothing_new : (row : R)
        → ((x : Mark) (i : ℕ) → (tells x && is_about x i k) ≡ true → saying x (Some row) ≡ saying x (row_at t k))
        → SetsMarks tells says m m k (Some row)
    nothing_new row alike x i g s = go (tells x) refl (same_key (place x i g s) k) refl
      where
        about : (a b : Bool) → (a && b) ≡ true → b ≡ true
        about true b e = e
        about false b e = cc

        go : (b : Bool) → tells x ≡ b → (c : Bool) → same_key (place x i g s) k ≡ c
            → said m x i g s ≡ cond (b && c) (saying x (Some row)) (said m x i g s)
        go true tell true same =
            told.told x tell i g s ∙ ap (λ (q : Key). saying x (row_at t q)) (equal_keys (place x i g s) k same)
            ∙ sym (alike x i (ap (λ (b : Bool). b && is_about x i k) tell
            ∙ about (same_key (mark_key g s) (entry_key k.group k.source)) (is_about x i k)
            (sym (place_is x i g s k) ∙ same)))
        go true tell false other = refl
        go false tell c same = refl

pub found_put : {R : Type 0} (k : Key) (row : R) (t t' : Table R) → t' ≡ put t k row
    → (q : Key) → row_at t' q ≡ cond (same_key q k) (Some row) (row_at t q)
found_put {R} k row t t' is q = ap (λ (u : Table R). row_at u q) is ∙ row_at-put k q t row

pub found_dropped : {R : Type 0} (k : Key) (t t' : Table R) → t' ≡ drop_at t k
    → (q : Key) → row_at t' q ≡ cond (same_key q k) None (row_at t q)
found_dropped {R} k t t' is q = ap (λ (u : Table R). row_at u q) is ∙ row_at-drop_at k q t

pub same_test : (a b : Bool) → beq a b ≡ true → a ≡ b
same_test true true e = refl
same_test true false e = cc
same_test false true e = cc
same_test false false e = refl

pub not_apart : (a b : Bool) → not (beq a b) ≡ false → a ≡ b
not_apart a b e = same_test a b (go (beq a b) e)
  where
    go : (c : Bool) → not c ≡ false → c ≡ true
    go true e = refl
    go false e = cc
