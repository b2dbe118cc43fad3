use Rattle.std.{proofs.Common.{◌≡◌, ◌||◌, ℕ}, specs.List.list_any}
use Rattle.igmp_membership.{specs.Sources.{has_number, is_of_source}}
use Rattle.igmp_membership.proofs.sources.gather.Given as goal

abbrev pub invariant-loop-key : goal.invariant-loop-key
invariant-loop-key g l =
    (n : ℕ)
    → (has_number n l.found.entries || list_any (λ e. is_of_source n e.0) l.key-iterator)
    ≡ (has_number n l.fn.found.entries || list_any (λ e. is_of_source n e.0) l.fn.facts)
