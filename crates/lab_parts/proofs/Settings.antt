-- A list of as many settings as there are interfaces.
use Rattle.std.{proofs.Common.{◌≡◌, ◌<◌, ℕ, suc, zero, List, [], ◌∷◌, ◌++◌, arith, ap, refl, length, map, take}}

pub same_more : {A B : Type 0} (x : B) (xs : List A) (i : ℕ) → i < length xs
    → map (λ _. x) (take (suc i) xs) ≡ map (λ _. x) (take i xs) ++ x ∷ []
same_more x [] i below = absurd (omega (arith, below))
same_more x (y ∷ ys) zero below = refl
same_more x (y ∷ ys) (suc i) below = ap (λ l. x ∷ l) (same_more x ys i (omega (arith, below)))
