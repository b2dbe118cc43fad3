use Rattle.std.{proofs.Common.{◌≡◌, drop, fold}}
use Rattle.pim_querier.{specs.Changes.sending_put}
use Rattle.pim_querier.proofs.asked.put_sendings.Given as goal

abbrev pub invariant-loop-source : goal.invariant-loop-source
invariant-loop-source l =
    fold (sending_put l.place.iface.number l.place.group.bits l.row) l.world (drop l.source-index l.sources)
    ≡ fold (sending_put l.place.iface.number l.place.group.bits l.row) l.fn.world l.sources
