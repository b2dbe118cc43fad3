-- Turns that do nothing can be left out.
use Rattle.std.{proofs.Common.{◌≡◌, ℕ, zero, suc, Bool, false, cond, List, [], ◌∷◌, ◌++◌, Option, Some, refl, ap, ◌∙◌, arith}, specs.List.filter}
use Rattle.pim_model.{specs.{Querier.each_in_turn, Repeat.{after_next, and_then, until_none}}}

module _ {S A M : Type 0} (change : S → A → S × List M) where
  -- what goes on from a turn
  abbrev goes_on : List A → S × List M → S × List M
  goes_on xs first = ((each_in_turn change first.0 xs).0, first.1 ++ (each_in_turn change first.0 xs).1)

  abbrev nothing : S → S × List M
  nothing s = (s, [])

  module _ (p : A → Bool) (none : (s : S) (x : A) → p x ≡ false → change s x ≡ nothing s) where
    turn_step : (x : A) (xs : List A) (s : S) (b : Bool) → p x ≡ b
        → ((t : S) → each_in_turn change t xs ≡ each_in_turn change t (filter p xs))
        → goes_on xs (change s x) ≡ each_in_turn change s (cond b (x ∷ filter p xs) (filter p xs))
    unfolding each_in_turn
    turn_step x xs s b e ih = grind arith

    pub turns_filtered : (xs : List A) (s : S) → each_in_turn change s xs ≡ each_in_turn change s (filter p xs)
    unfolding each_in_turn
    turns_filtered [] s = refl
    turns_filtered (x ∷ xs) s = turn_step x xs s (p x) refl (turns_filtered xs)

-- the repetition of what comes next the same where it is kept
module _ {S D E : Type 0} (next next' : S → Option D) (once : S → D → S × List E) (Kept : S → Type 0)
    (same : (s : S) → Kept s → next s ≡ next' s)
    (keeps : (s : S) (d : D) → Kept s → next s ≡ Some d → Kept (once s d).0) where
  repeated_once : (n : ℕ) → ((t : S) → Kept t → until_none next once n t ≡ until_none next' once n t)
      → (s : S) → Kept s → (o : Option D) → next s ≡ o
      → after_next next once (λ t. until_none next once n t) s o ≡ after_next next' once
      (λ t. until_none next' once n t) s o
  unfolding after_next and_then
  repeated_once n ih s k o e = grind arith

  pub same_repetition : (n : ℕ) (s : S) → Kept s → until_none next once n s ≡ until_none next' once n s
  unfolding until_none
  same_repetition zero s k = refl
  same_repetition (suc n) s k =
      repeated_once n (same_repetition n) s k (next s) refl
      ∙ ap (after_next next' once (λ t. until_none next' once n t) s) (same s k)
