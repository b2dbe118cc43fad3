use Rattle.std.{proofs.Common.{◌≡◌, filter, take}}
use Rattle.pim_model.{specs.Querier.{exceeds, source_end}}
use Rattle.igmp_wire.{specs.Written.bits_of}
use Rattle.pim_querier.proofs.asked.running_past.Given as goal

abbrev pub invariant-loop-source : goal.invariant-loop-source
invariant-loop-source l =
    bits_of l.running.items
    ≡ filter (λ src. exceeds l.moment (source_end l.world l.place.iface.number l.place.group.bits src))
    (bits_of (take l.source-index l.sources))
