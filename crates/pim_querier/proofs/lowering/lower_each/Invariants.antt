use Rattle.std.{proofs.Common.{◌≡◌, drop, fold}}
use Rattle.pim_querier.{specs.Changes.one_lowered}
use Rattle.pim_querier.proofs.lowering.lower_each.Given as goal

abbrev pub invariant-loop-source : goal.invariant-loop-source
invariant-loop-source l =
    fold (one_lowered l.place.iface.number l.place.group.bits l.end) l.world (drop l.source-index l.sources)
    ≡ fold (one_lowered l.place.iface.number l.place.group.bits l.end) l.fn.world l.sources
