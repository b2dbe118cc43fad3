use Rattle.std.{proofs.Common.{◌≡◌, ◌==◌, ℕ, drop}, specs.List.list_any}
use Rattle.pim_worlds.proofs.numbers.is_among.Given as goal

abbrev pub invariant-loop-other : goal.invariant-loop-other
invariant-loop-other l =
    let test = λ (m : ℕ). m == l.number in
    list_any test (drop l.other-index l.numbers) ≡ list_any test l.numbers
