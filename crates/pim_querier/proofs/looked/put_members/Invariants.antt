use Rattle.std.{proofs.Common.{◌≡◌, ◌++◌, map, take}}
use Rattle.pim_filters.{specs.Members.member_entries}
use Rattle.pim_querier.{specs.Looking.source_keys}
use Rattle.pim_querier.proofs.looked.put_members.Given as goal

abbrev pub invariant-loop-member : goal.invariant-loop-member
invariant-loop-member l =
    l.keys.items
    ≡ l.fn.keys.items
    ++ source_keys l.place.iface.number l.place.group.bits
    (map (λ m. m.0) (member_entries (take l.member-index l.members)))
