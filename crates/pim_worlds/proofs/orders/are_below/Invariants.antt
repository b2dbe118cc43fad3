use Rattle.std.{proofs.Common.{◌≡◌, ℕ, drop, nat_lt}, specs.List.list_all}
use Rattle.pim_worlds.proofs.orders.are_below.Given as goal

abbrev pub invariant-loop-number : goal.invariant-loop-number
invariant-loop-number l =
    let test = λ (j : ℕ). nat_lt j l.bound in
    list_all test (drop l.number-index l.numbers) ≡ list_all test l.numbers
