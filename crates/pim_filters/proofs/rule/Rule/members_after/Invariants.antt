use Rattle.std.{proofs.Common.{◌≡◌, ◌++◌, filter_map}}
use Rattle.pim_filters.{specs.{Cases.cases_in, Changes.entry_after, Members.member_entries}}
use Rattle.pim_filters.proofs.rule.Rule.members_after.Given as goal

abbrev pub invariant-loop-case : goal.invariant-loop-case
invariant-loop-case l =
    member_entries l.after.items ++ filter_map (entry_after l.self) (cases_in l.case-iterator.members.now l.case-iterator.names.now)
    ≡ filter_map (entry_after l.self) (cases_in l.members l.names)
