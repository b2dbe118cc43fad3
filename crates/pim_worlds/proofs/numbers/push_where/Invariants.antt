use Rattle.std.{proofs.Common.{◌≡◌, ◌++◌, ℕ, Bool, filter}, specs.List.range_with_len}
use Rattle.pim_worlds.proofs.numbers.push_where.Given as goal

abbrev pub invariant-loop-number : goal.invariant-loop-number
invariant-loop-number g l =
    (p : ℕ → Bool) → ((i : ℕ) (b : Bool) → goal.F-post g l.test i b → b ≡ p i)
    → l.out.items ≡ l.fn.out.items ++ filter p (range_with_len 0 l.number)
