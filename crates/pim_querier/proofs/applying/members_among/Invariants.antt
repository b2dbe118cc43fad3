use Rattle.std.{proofs.Common.{◌≡◌, ◌++◌}}
use Rattle.pim_filters.{specs.Members.member_entries}
use Rattle.igmp_wire.{specs.Written.bits_of}
use Rattle.pim_querier.{specs.Reports.known_members}
use Rattle.pim_querier.proofs.applying.members_among.Given as goal

abbrev pub invariant-loop-source : goal.invariant-loop-source
invariant-loop-source l =
    member_entries l.members.items
    ++ known_members l.place.iface.number l.place.group.bits l.world.source_records (bits_of l.source-iterator)
    ≡ known_members l.place.iface.number l.place.group.bits l.world.source_records (bits_of l.sources.keys)
