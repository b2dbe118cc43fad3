use Rattle.std.{proofs.Common.{◌≡◌, ◌==◌, drop}, specs.List.list_any}
use Rattle.pim_querier.proofs.looked.is_among.Given as goal

abbrev pub invariant-loop-other : goal.invariant-loop-other
invariant-loop-other l =
    list_any (λ a. a.bits == l.group.bits) (drop l.other-index l.groups)
    ≡ list_any (λ a. a.bits == l.group.bits) l.groups
