-- What a row makes of the marks of its group, or of its source.
use Rattle.std.{proofs.Common.{◌≡◌, ◌&&◌, ◌||◌, ℕ, Bool, true, false, cond, Option, Some, None, is_some, refl, sym, ap, ◌∙◌, ◌<◌}, specs.{List.Sorted.IsStrictlySortedBy, Prelude.{Err, Ok, OnOk, Result}}}
use Rattle.pim_types.{specs.{declared.fact.Key.Key, Keys.{key_cmp, same_key}}, proofs.Keys.equal_keys}
use Rattle.pim_model.{specs.Tables.{Table, change_row, has_row, keys_in, row_at}}
use Rattle.pim_tables.{proofs.Lookups.absent}
use Rattle.pim_source_trie.{specs.Entries.entry_key}
use Rattle.pim_store.{specs.{Entry.{is_plain, kept, with_mark, with_plain, without_either}, Said.{SetsMarks, Writes, is_about, is_set_by, mark_key, row_says, said, seen, seen_in, source_bits}, Telling.is_set_by_either, declared.marks.{Mark.{Mark, TheVariants.{Joined, Branched, Pruned, Lost, Won, HasOverrideTimer, HasSource, HasRegister}}, Marks.Marks}}, proofs.{Altered.{altered_writes, unaltered}, Changed.{seen_with, seen_without}, Places.place_is}}

-- ---- one or two marks

pub same_mark : (m x : Mark) (n i : ℕ) → is_set_by m n x i ≡ true → m ≡ x
same_mark Joined Joined n i e = refl
same_mark Joined x n i e = cc
same_mark Branched Branched n i e = refl
same_mark Branched x n i e = cc
same_mark Pruned Pruned n i e = refl
same_mark Pruned x n i e = cc
same_mark Lost Lost n i e = refl
same_mark Lost x n i e = cc
same_mark Won Won n i e = refl
same_mark Won x n i e = cc
same_mark HasOverrideTimer HasOverrideTimer n i e = refl
same_mark HasOverrideTimer x n i e = cc
same_mark HasSource HasSource n i e = refl
same_mark HasSource x n i e = cc
same_mark HasRegister HasRegister n i e = refl
same_mark HasRegister x n i e = cc

module _ (says : Mark → Bool) (n : ℕ) (x : Mark) (i : ℕ) where
  one_set : (m : Mark) (b : Bool) → is_set_by m n x i ≡ b → (v : Bool) → cond b (says m) v ≡ cond b (says x) v
  one_set m true is v = ap says (same_mark m x n i is)
  one_set m false is v = refl

  pub two_marked : (marks : Mark × Option Mark) (second : Mark) (told first_said second_said before between after : Bool)
      → marks.1 ≡ Some second → told ≡ is_set_by_either marks n x i
      → first_said ≡ says marks.0 → second_said ≡ says second
      → between ≡ cond (is_set_by marks.0 n x i) first_said before
      → after ≡ cond (is_set_by second n x i) second_said between → after ≡ cond told (says x) before
  two_marked marks second told first_said second_said before between after is by one other once twice =
      twice ∙ ap (λ (v : Bool). cond (is_set_by second n x i) v between) other
      ∙ one_set second (is_set_by second n x i) refl between
      ∙ ap (λ (v : Bool). cond (is_set_by second n x i) (says x) v)
      (once ∙ ap (λ (v : Bool). cond (is_set_by marks.0 n x i) v before) one
      ∙ one_set marks.0 (is_set_by marks.0 n x i) refl before)
      ∙ joined (is_set_by marks.0 n x i) (is_set_by second n x i)
      ∙ ap (λ (o : Option Mark). cond (is_set_by_either (marks.0, o) n x i) (says x) before) (sym is)
      ∙ ap (λ (b : Bool). cond b (says x) before) (sym by)
    where
      joined : (a b : Bool) → cond b (says x) (cond a (says x) before) ≡ cond (a || b) (says x) before
      joined true true = refl
      joined true false = refl
      joined false true = refl
      joined false false = refl

  -- a mark alone
  pub one_marked : (marks : Mark × Option Mark) (told first_said before after : Bool) → marks.1 ≡ None
      → told ≡ is_set_by_either marks n x i → first_said ≡ says marks.0
      → after ≡ cond (is_set_by marks.0 n x i) first_said before → after ≡ cond told (says x) before
  one_marked marks told first_said before after is by one once =
      once ∙ ap (λ (v : Bool). cond (is_set_by marks.0 n x i) v before) one
      ∙ one_set marks.0 (is_set_by marks.0 n x i) refl before ∙ alone (is_set_by marks.0 n x i)
      ∙ ap (λ (o : Option Mark). cond (is_set_by_either (marks.0, o) n x i) (says x) before) (sym is)
      ∙ ap (λ (b : Bool). cond b (says x) before) (sym by)
    where
      alone : (a : Bool) → cond a (says x) before ≡ cond (a || false) (says x) before
      alone true = refl
      alone false = refl

-- ---- written back

module _ {R : Type 0} (tells : Mark → Bool) (says : Mark → R → Bool) (k : Key) (row : Option R)
    (t t' : Table Marks) where
  -- the marks of the key's group and source
  same_place : (x : Mark) (i g : ℕ) (s : Option ℕ) → same_key (mark_key g s) (entry_key k.group k.source) ≡ true
      → said t x i k.group.bits (source_bits k.source) ≡ said t x i g s
  same_place x i g s same =
      ap (λ (q : Key). seen_in x i (row_at t q)) (sym (equal_keys (mark_key g s) (entry_key k.group k.source) same))

  module _ (before after : Marks)
      (got : (x : Mark) (i : ℕ) → seen x before i ≡ said t x i k.group.bits (source_bits k.source))
      (marked : (x : Mark) (i : ℕ) → seen x after i
      ≡ cond (tells x && is_about x i k) (row_says tells says x row) (seen x before i)) where
    sets_marks : Writes t t' (entry_key k.group k.source) after → SetsMarks tells says t t' k row
    sets_marks writes x i g s =
        writes x i g s ∙ go (same_key (mark_key g s) (entry_key k.group k.source)) refl
        ∙ ap (λ (b : Bool). cond (tells x && b) (row_says tells says x row) (said t x i g s)) (sym (place_is x i g s k))
      where
        elsewhere : (b : Bool) (y z : Bool) → z ≡ cond (b && false) y z
        elsewhere true y z = refl
        elsewhere false y z = refl

        go : (b : Bool) → same_key (mark_key g s) (entry_key k.group k.source) ≡ b
            → cond b (seen x after i) (said t x i g s)
            ≡ cond (tells x && (b && is_about x i k)) (row_says tells says x row) (said t x i g s)
        go true same =
            marked x i
            ∙ ap (λ (v : Bool). cond (tells x && is_about x i k) (row_says tells says x row) v)
            (got x i ∙ same_place x i g s same)
        go false other = elsewhere (tells x) (row_says tells says x row) (said t x i g s)

  -- where there are no marks none is taken away
  none_to_take : row ≡ None → row_at t (entry_key k.group k.source) ≡ None → t' ≡ t
      → SetsMarks tells says t t' k row
  none_to_take none absent is x i g s =
      ap (λ (u : Table Marks). said u x i g s) is
      ∙ go (same_key (mark_key g s) (entry_key k.group k.source)) refl
      ∙ ap (λ (b : Bool). cond (tells x && b) (row_says tells says x row) (said t x i g s)) (sym (place_is x i g s k))
    where
      silent : row_says tells says x row ≡ false
      silent = ap (λ (o : Option R). row_says tells says x o) none

      all_silent : (b y z : Bool) → y ≡ false → z ≡ false → z ≡ cond b y z
      all_silent true y z e f = f ∙ sym e
      all_silent false y z e f = refl

      elsewhere : (b : Bool) (y z : Bool) → z ≡ cond (b && false) y z
      elsewhere true y z = refl
      elsewhere false y z = refl

      go : (b : Bool) → same_key (mark_key g s) (entry_key k.group k.source) ≡ b
          → said t x i g s ≡ cond (tells x && (b && is_about x i k)) (row_says tells says x row) (said t x i g s)
      go true same =
          all_silent (tells x && is_about x i k) (row_says tells says x row) (said t x i g s) silent
          (sym (same_place x i g s same) ∙ ap (seen_in x i) absent)
      go false other = elsewhere (tells x) (row_says tells says x row) (said t x i g s)

-- after a call that may be refused
module _ {R T E : Type 0} (tells : Mark → Bool) (says : Mark → R → Bool) (k : Key) (row : Option R)
    (t t' : Table Marks) (before after : Marks)
    (got : (x : Mark) (i : ℕ) → seen x before i ≡ said t x i k.group.bits (source_bits k.source))
    (marked : (x : Mark) (i : ℕ) → seen x after i
    ≡ cond (tells x && is_about x i k) (row_says tells says x row) (seen x before i)) where
  pub marks_set : (r : Result T E) → OnOk r (Writes t t' (entry_key k.group k.source) after)
      → OnOk r (SetsMarks tells says t t' k row)
  marks_set (Ok x) writes = sets_marks tells says k row t t' before after got marked writes
  marks_set (Err e) writes = tt

-- where there are none yet
pub got_none : (k : Key) (t : Table Marks) (m : Marks) → ((x : Mark) (i : ℕ) → seen x m i ≡ false)
    → has_row t (entry_key k.group k.source) ≡ false → (x : Mark) (i : ℕ)
    → seen x m i ≡ said t x i k.group.bits (source_bits k.source)
unfolding row_at
got_none k t m silent none x i =
    silent x i ∙ sym (ap (seen_in x i) (absent (entry_key k.group k.source) t none))

pub not_some : {X : Type 0} (o : Option X) (b : Bool) → b ≡ is_some o → b ≡ false → o ≡ None
not_some None b is none = refl
not_some (Some x) b is none = cc

-- in place
module _ {R : Type 0} (tells : Mark → Bool) (says : Mark → R → Bool) (k : Key) (t t' : Table Marks) (n : ℕ)
    (near : n < 120) (marks : Mark × Option Mark)
    (told : (x : Mark) (i : ℕ) → (tells x && is_about x i k) ≡ is_set_by_either marks n x i) where
  got_there : (m : Marks) → row_at t (entry_key k.group k.source) ≡ Some m → (x : Mark) (i : ℕ)
      → seen x m i ≡ said t x i k.group.bits (source_bits k.source)
  got_there m found x i = sym (ap (seen_in x i) found)

  -- a mark that every entry has room for
  pub plain_set : (row : R) (b : Bool) → marks.1 ≡ None → is_plain marks.0 ≡ true → b ≡ says marks.0 row
      → has_row t (entry_key k.group k.source) ≡ true
      → ((m : Marks) → row_at t (entry_key k.group k.source) ≡ Some m
      → Writes t t' (entry_key k.group k.source) (with_plain marks.0 n b m)) → SetsMarks tells says t t' k (Some row)
  unfolding has_row
  plain_set row b alone plain said there writes = go (row_at t (entry_key k.group k.source)) refl there
    where
      with_it : (m : Marks) → with_plain marks.0 n b m ≡ with_mark marks.0 n b m
      with_it m = ap (λ (c : Bool). cond c (with_mark marks.0 n b m) m) plain

      go : (o : Option Marks) → row_at t (entry_key k.group k.source) ≡ o → is_some o ≡ true
          → SetsMarks tells says t t' k (Some row)
      go None found there = cc
      go (Some m) found there =
          sets_marks tells says k (Some row) t t' m (with_plain marks.0 n b m) (got_there m found)
          (λ x i. one_marked (λ y. row_says tells says y (Some row)) n x i marks _ b _ _ alone (told x i) said
          (ap (λ (u : Marks). seen x u i) (with_it m) ∙ seen_with marks.0 n b m near x i))
          (writes m found)

  -- the marks that a row told are cleared
  pub marks_cleared : IsStrictlySortedBy key_cmp (keys_in t)
      → t' ≡ change_row (λ m. kept (without_either marks.0 marks.1 n m)) (entry_key k.group k.source) t
      → SetsMarks tells says t t' k None
  unfolding has_row
  marks_cleared sorted is = go (row_at t (entry_key k.group k.source)) refl
    where
      go : (o : Option Marks) → row_at t (entry_key k.group k.source) ≡ o → SetsMarks tells says t t' k None
      go None found =
          none_to_take tells says k None t t' refl found
          (unaltered k.group k.source (λ m. without_either marks.0 marks.1 n m) t t' is (ap is_some found))
      go (Some m) found =
          sets_marks tells says k None t t' m (without_either marks.0 marks.1 n m) (got_there m found)
          (λ x i. seen_without marks.0 marks.1 n m near x i
          ∙ ap (λ (b : Bool). cond b false (seen x m i)) (sym (told x i)))
          (altered_writes k.group k.source (λ m. without_either marks.0 marks.1 n m) t t' is sorted m found)
