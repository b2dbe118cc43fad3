use Rattle.std.{proofs.Common.{◌≡◌, filter, take}}
use Rattle.pim_model.{specs.{Querier.{exceeds, source_end}, Tables.same_bool}}
use Rattle.pim_querier.{specs.Changes.row_sources}
use Rattle.igmp_wire.{specs.Written.bits_of}
use Rattle.pim_querier.proofs.sendings.sources_by_end.Given as goal

abbrev pub invariant-loop-key : goal.invariant-loop-key
invariant-loop-key l =
    bits_of l.sources.items
    ≡ filter (λ src. same_bool l.runs_on (exceeds l.moment (source_end l.world l.place.iface.number l.place.group.bits src)))
    (row_sources (take l.key-index l.sendings))
