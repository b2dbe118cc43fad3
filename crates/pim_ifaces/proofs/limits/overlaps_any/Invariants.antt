use Rattle.std.{proofs.Common.{◌≡◌, drop}, specs.List.list_any}
use Rattle.pim_model.{specs.Limits.overlaps}
use Rattle.pim_ifaces.proofs.limits.overlaps_any.Given as goal

abbrev pub invariant-loop-other : goal.invariant-loop-other
invariant-loop-other l =
    list_any (overlaps l.interface) (drop l.other-index l.others) ≡ list_any (overlaps l.interface) l.others
