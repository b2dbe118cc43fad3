use Rattle.std.{proofs.Common.{◌≡◌, ◌++◌, take}}
use Rattle.igmp_wire.{specs.Written.bits_of}
use Rattle.pim_querier.{specs.Looking.source_keys}
use Rattle.pim_querier.proofs.looked.put_keys.Given as goal

abbrev pub invariant-loop-source : goal.invariant-loop-source
invariant-loop-source l =
    l.keys.items
    ≡ l.fn.keys.items ++ source_keys l.place.iface.number l.place.group.bits (bits_of (take l.source-index l.sources))
