use Rattle.std.{proofs.Common.{◌≡◌, ◌++◌, filter, map}}
use Rattle.pim_filters.{specs.{Cases.cases_in, Changes.is_case_asked}}
use Rattle.pim_filters.proofs.rule.Rule.sources_asked.Given as goal

abbrev pub invariant-loop-case : goal.invariant-loop-case
invariant-loop-case l =
    l.asked.items ++ map (λ c. c.source) (filter (is_case_asked l.self) (cases_in l.case-iterator.members.now l.case-iterator.names.now))
    ≡ map (λ c. c.source) (filter (is_case_asked l.self) (cases_in l.members l.names))
