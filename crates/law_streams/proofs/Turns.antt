-- A repetition in which at some turn something is sent: what holds until then, and what holds from then on.
use Rattle.std.{proofs.Common.{◌≡◌, ℕ, zero, suc, List, ◌++◌, ◌⊎◌, inl, inr, Option, Some, None, refl}}
use Rattle.pim_model.{specs.Repeat.{after_next, and_then, until_none}}
use Rattle.law_settled.{proofs.TurnLaws.kept_to_the_end}

module _ {S D E : Type 0} (next : S → Option D) (once : S → D → S × List E) (Has : List E → Type 0) (Before After : S → Type 0)
    (first : (xs ys : List E) → Has xs → Has (xs ++ ys)) (second : (xs ys : List E) → Has ys → Has (xs ++ ys))
    (turns : (s : S) (d : D) → next s ≡ Some d → Before s → Before (once s d).0 ⊎ (Has (once s d).1 × After (once s d).0))
    (stays : (s : S) (d : D) → After s → next s ≡ Some d → After (once s d).0) where
  abbrev pub Either : S × List E → Type 0
  Either p = Before p.0 ⊎ (Has p.1 × After p.0)

  one_turn : (n : ℕ) → ((s : S) → Before s → Either (until_none next once n s)) → (s : S) (o : Option D) → next s ≡ o → Before s
      → Either (after_next next once (λ t. until_none next once n t) s o)
  unfolding after_next and_then
  one_turn n later s None is f = inl f
  one_turn n later s (Some d) is f = go (turns s d is f)
    where
      rest : S × List E
      rest = until_none next once n (once s d).0

      then_sent : Either rest → Before (rest).0 ⊎ (Has ((once s d).1 ++ (rest).1) × After (rest).0)
      then_sent (inl g) = inl g
      then_sent (inr (has, g)) = inr (second (once s d).1 (rest).1 has, g)

      go : Before (once s d).0 ⊎ (Has (once s d).1 × After (once s d).0)
          → Before (rest).0 ⊎ (Has ((once s d).1 ++ (rest).1) × After (rest).0)
      go (inl g) = then_sent (later (once s d).0 g)
      go (inr (has, g)) =
          inr (first (once s d).1 (rest).1 has, kept_to_the_end next once After stays n (once s d).0 g)

  pub to_the_end : (n : ℕ) (s : S) → Before s → Either (until_none next once n s)
  unfolding until_none
  to_the_end zero s f = inl f
  to_the_end (suc n) s f = one_turn n (to_the_end n) s (next s) refl f
