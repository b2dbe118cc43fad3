-- A row that says what the one before says: nothing is looked up then.
use Rattle.std.{proofs.{Common.{◌≡◌, ◌==◌, ◌&&◌, ◌||◌, ℕ, Bool, true, false, not, Option, Some, refl, ap, ◌∙◌, arith}, lemmas.Bool.Decides.nat_tests}, specs.Bool.beq}
use Rattle.pim_types.{specs.declared.fact.Key.Key}
use Rattle.pim_store.{specs.{Said.{is_about, is_set_by}, Telling.{is_second, is_set_by_either}, declared.marks.Mark.{Mark, TheVariants.{Joined, Branched, Pruned, Lost, Won, HasOverrideTimer, HasSource, HasRegister}}}}

-- ---- the marks that a row tells

same_number : (n : ℕ) → (n == n) ≡ true
same_number n = grind (arith, nat_tests)

set_by_itself : (x : Mark) (n : ℕ) → is_set_by x n x n ≡ true
set_by_itself Joined n = same_number n
set_by_itself Branched n = same_number n
set_by_itself Pruned n = same_number n
set_by_itself Lost n = same_number n
set_by_itself Won n = same_number n
set_by_itself HasOverrideTimer n = refl
set_by_itself HasSource n = refl
set_by_itself HasRegister n = refl

module _ (tells : Mark → Bool) (k : Key) (n : ℕ) (marks : Mark × Option Mark)
    (told : (x : Mark) (i : ℕ) → (tells x && is_about x i k) ≡ is_set_by_either marks n x i)
  where
    left : (a b : Bool) → (a && b) ≡ true → a ≡ true
    left true b e = refl
    left false b e = cc

    either : (a : Bool) → (a || true) ≡ true
    either true = refl
    either false = refl

    pub first_told : tells marks.0 ≡ true
    first_told =
        left (tells marks.0) (is_about marks.0 n k)
        (told marks.0 n ∙ ap (λ (b : Bool). b || is_second marks.1 n marks.0 n) (set_by_itself marks.0 n))

    pub second_told : (x : Mark) → marks.1 ≡ Some x → tells x ≡ true
    second_told x is =
        left (tells x) (is_about x n k)
        (told x n
        ∙ ap (λ (o : Option Mark). is_set_by marks.0 n x n || is_second o n x n) is
        ∙ ap (λ (b : Bool). is_set_by marks.0 n x n || b) (set_by_itself x n)
        ∙ either (is_set_by marks.0 n x n))

-- ---- tests

pub tested : (a b : Bool) → a ≡ b → beq a b ≡ true
tested true true e = refl
tested true false e = cc
tested false true e = cc
tested false false e = refl

pub apart : (a b : Bool) → not (beq a b) ≡ true → a ≡ b → ⊥
apart true true e same = cc
apart true false e same = cc
apart false true e same = cc
apart false false e same = cc
