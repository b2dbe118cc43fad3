use Rattle.std.{proofs.Common.{◌≡◌, ◌++◌, map, take, drop}}
use Rattle.pim_filters.{specs.Members.with_end_lowered}
use Rattle.pim_filters.proofs.group_record.lower.Given as goal

abbrev pub invariant-loop-member : goal.invariant-loop-member
invariant-loop-member l = l.members ≡ map (with_end_lowered l.sources l.end) (take l.member-index l.initial.members) ++ drop l.member-index l.initial.members
