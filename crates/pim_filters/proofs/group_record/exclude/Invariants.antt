use Rattle.std.{proofs.Common.{◌≡◌, ◌++◌, map, take, drop}}
use Rattle.pim_filters.{specs.Members.without_end}
use Rattle.pim_filters.proofs.group_record.exclude.Given as goal

abbrev pub invariant-loop-member : goal.invariant-loop-member
invariant-loop-member l = l.members ≡ map (without_end l.source.bits) (take l.member-index l.initial.members) ++ drop l.member-index l.initial.members
