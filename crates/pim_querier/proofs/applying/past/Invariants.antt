use Rattle.std.{proofs.Common.{◌≡◌, filter, take}}
use Rattle.pim_filters.{specs.Members.member_entries}
use Rattle.pim_model.{specs.Querier.exceeds}
use Rattle.pim_querier.proofs.applying.past.Given as goal

abbrev pub invariant-loop-member : goal.invariant-loop-member
invariant-loop-member l =
    member_entries l.late.items
    ≡ filter (λ m. exceeds l.moment m.1) (member_entries (take l.member-index l.members))
