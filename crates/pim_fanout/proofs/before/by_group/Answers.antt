use Rattle.std.proofs.{Common.rules, lemmas.List.Sorted.IsNonDecreasingBy-from_sort_by_key}
use Rattle.pim_types.{specs.Keys.group_in}
use Rattle.pim_fanout.proofs.before.by_group.Goals as goal

pub returns-clause-order : goal.returns-clause-order
returns-clause-order c =
    IsNonDecreasingBy-from_sort_by_key group_in _ c.sort_unstable_by_key.ensures.sorted (λ a r f k. search rules)
