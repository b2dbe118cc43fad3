-- The first of those that pass a test, one after the other.
use Rattle.std.{proofs.Common.{◌≡◌, ℕ, suc, Bool, true, false, List, [], ◌∷◌, ◌++◌, map, refl, ap, ◌∙◌, append_assoc, take}, specs.List.filter}

module _ {E : Type 0} (made : ℕ → E) (passes : ℕ → Bool) where
  -- those among the next so many
  abbrev pub first_of : ℕ → List ℕ → List E
  first_of room ns = map made (take room (filter passes ns))

  pub taken : (room : ℕ) (ns left : List ℕ) (n : ℕ) → ns ≡ n ∷ left → passes n ≡ true
      → (found : List E) → (found ++ made n ∷ []) ++ first_of room left ≡ found ++ first_of (suc room) ns
  taken room ns left n is passed found =
      append_assoc found (made n ∷ []) (first_of room left)
      ∙ ap (λ es. found ++ es) (rw (is, passed) refl)

  -- one that doesn't pass
  pub passed_over : (room : ℕ) (ns left : List ℕ) (n : ℕ) → ns ≡ n ∷ left → passes n ≡ false
      → first_of room left ≡ first_of room ns
  passed_over room ns left n is failed = rw (is, failed) refl
