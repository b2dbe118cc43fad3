use Rattle.std.{proofs.Common.{◌≡◌, ◌++◌}}
use Rattle.pim_filters.{specs.Members.member_entries}
use Rattle.pim_model.{specs.Records.{members_of, record_of}}
use Rattle.pim_querier.proofs.records.members_at.Given as goal

abbrev pub invariant-loop-key : goal.invariant-loop-key
invariant-loop-key l =
    member_entries l.members.items ++ members_of l.key-iterator
    ≡ (record_of l.world l.fn.place.iface.number l.fn.place.group.bits).members
