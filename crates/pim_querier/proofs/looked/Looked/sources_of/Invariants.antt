use Rattle.std.{proofs.Common.{◌≡◌, filter, map, take}}
use Rattle.igmp_wire.{specs.Written.bits_of}
use Rattle.pim_model.{specs.Records.is_at_group}
use Rattle.pim_types.{specs.Keys.source_in}
use Rattle.pim_querier.proofs.looked.Looked.sources_of.Given as goal

abbrev pub invariant-loop-key : goal.invariant-loop-key
invariant-loop-key l =
    bits_of l.found.items
    ≡ map source_in (filter (is_at_group l.place.iface.number l.place.group.bits) (take l.key-index l.key-items))
