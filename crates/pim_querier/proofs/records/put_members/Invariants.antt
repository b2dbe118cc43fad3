use Rattle.std.{proofs.Common.{◌≡◌, drop, fold}}
use Rattle.pim_querier.{specs.Changes.member_put}
use Rattle.pim_querier.proofs.records.put_members.Given as goal

abbrev pub invariant-loop-member : goal.invariant-loop-member
invariant-loop-member l =
    fold (member_put l.place.iface.number l.place.group.bits) l.world (drop l.member-index l.members)
    ≡ fold (member_put l.place.iface.number l.place.group.bits) l.fn.world l.members
