use Rattle.std.{proofs.Common.{◌≡◌, ◌||◌, ℕ}}
use Rattle.igmp_membership.{proofs.Found.any_before, specs.Sources.has_number}
use Rattle.igmp_membership.proofs.sendings.Sendings.gather_sources.Given as goal

abbrev pub invariant-loop-number : goal.invariant-loop-number
invariant-loop-number l =
    (n : ℕ)
    → has_number n l.found.entries ≡ (has_number n l.fn.found.entries || any_before l.number l.group.bits n l.self)
