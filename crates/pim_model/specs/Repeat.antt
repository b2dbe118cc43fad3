-- A step that is done again and again while there is something next. The fuel bounds how often.
use Rattle.std.{specs.Prelude.{List, None, Option, Some, [], suc, zero, ℕ, ◌++◌}}

module _ {S D E : Type 0} (next : S → Option D) (once : S → D → S × List E) where
  -- a first step, and what follows of the state after it
  unfoldable pub and_then : (S → S × List E) → S × List E → S × List E
  and_then later (s, es) = let rest : S × List E = later s in (rest.0, es ++ rest.1)

  -- a step, if there is one, and after it `later`: the state, and the emissions of both in that order
  unfoldable pub after_next : (S → S × List E) → S → Option D → S × List E
  after_next later s None = (s, [])
  after_next later s (Some d) = and_then later (once s d)

  -- steps until no next one is found, at most as many as the fuel says
  unfoldable pub until_none : ℕ → S → S × List E
  until_none zero s = (s, [])
  until_none (suc n) s = after_next (λ t. until_none n t) s (next s)
