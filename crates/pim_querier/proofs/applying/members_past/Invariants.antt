use Rattle.std.{proofs.Common.{◌≡◌, ◌++◌, filter}}
use Rattle.pim_filters.{specs.Members.member_entries}
use Rattle.pim_model.{specs.{Querier.exceeds, Records.{members_of, record_of}}}
use Rattle.pim_querier.proofs.applying.members_past.Given as goal

abbrev pub invariant-loop-key : goal.invariant-loop-key
invariant-loop-key l =
    member_entries l.members.items ++ filter (λ m. exceeds l.moment m.1) (members_of l.key-iterator)
    ≡ filter (λ m. exceeds l.moment m.1) (record_of l.world l.fn.place.iface.number l.fn.place.group.bits).members
