-- The repetition ends: where each turn makes a count smaller, as much fuel as the count is enough.
use Rattle.std.{proofs.Common.{◌≡◌, ℕ, zero, suc, ◌<◌, ◌≤◌, List, Option, Some, None, refl, arith, rules}}
use Rattle.pim_model.{specs.Repeat.{and_then, after_next, until_none}}
use Rattle.law_settled.{proofs.TurnLaws.none_then_none}

module _ {S D E : Type 0} (next : S → Option D) (once : S → D → S × List E)
    (Kept : S → Type 0) (left : S → ℕ)
    (keeps : (s : S) (d : D) → Kept s → next s ≡ Some d → Kept (once s d).0)
    (falls : (s : S) (d : D) → Kept s → next s ≡ Some d → left (once s d).0 < left s)
  where
    -- nothing is next where the count is 0
    nothing_left : (s : S) (o : Option D) → next s ≡ o → Kept s → left s ≤ 0 → o ≡ None
    nothing_left s None e k h = refl
    nothing_left s (Some d) e k h = let f : left (once s d).0 < left s = falls s d k e in absurd (omega arith)

    -- in the end nothing is next
    end_of_turn : (n : ℕ) (s : S) (o : Option D) → next s ≡ o
        → ((t : S) → Kept t → left t ≤ n → next (until_none next once n t).0 ≡ None)
        → Kept s → left s ≤ suc n → next (after_next next once (λ t. until_none next once n t) s o).0 ≡ None
    unfolding until_none after_next and_then
    end_of_turn n s o e ih k h = grind arith

    pub none_is_next : (n : ℕ) (s : S) → Kept s → left s ≤ n → next (until_none next once n s).0 ≡ None
    unfolding until_none
    none_is_next zero s k h = nothing_left s (next s) refl k h
    none_is_next (suc n) s k h = end_of_turn n s (next s) refl (none_is_next n) k h

    -- ---- more fuel changes nothing

    module _ (n m : ℕ) (ih : (t : S) → Kept t → left t ≤ n → left t ≤ m
        → until_none next once n t ≡ until_none next once m t) where
      same_turn : (s : S) (o : Option D) → next s ≡ o → Kept s → left s ≤ suc n → left s ≤ suc m
          → after_next next once (λ t. until_none next once n t) s o
          ≡ after_next next once (λ t. until_none next once m t) s o
      unfolding after_next and_then
      same_turn s o e k h g = grind arith

    pub same_with_more_fuel : (n m : ℕ) (s : S) → Kept s → left s ≤ n → left s ≤ m
        → until_none next once n s ≡ until_none next once m s
    unfolding until_none
    same_with_more_fuel zero zero s k h g = refl
    same_with_more_fuel zero (suc m) s k h g = search (rules, none_then_none, nothing_left)
    same_with_more_fuel (suc n) zero s k h g = search (rules, none_then_none, nothing_left)
    same_with_more_fuel (suc n) (suc m) s k h g = same_turn n m (same_with_more_fuel n m) s (next s) refl k h g

    -- ---- one turn, then the rest with the same fuel

    pub unrolls : (n : ℕ) (s : S) (d : D) → Kept s → left s ≤ n → next s ≡ Some d
        → until_none next once n s ≡ and_then next once (λ t. until_none next once n t) (once s d)
    unfolding until_none after_next and_then
    unrolls n s d k h e = grind (arith, same_with_more_fuel)
