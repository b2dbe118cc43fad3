use Rattle.std.proofs.{Common.{rules, ltb}, lemmas.List.Sorted.{IsPartitionPoint-from_clause, IsPartitionedBy-ltb}}
use Rattle.pim_types.{specs.Keys.group_in}
use Rattle.pim_fanout.{proofs.Grouping.{from_place, order_from}}
use Rattle.pim_fanout.proofs.before.from.Goals as goal

pub returns-clause-kept : goal.returns-clause-kept
returns-clause-kept c =
    from_place c.args.group.bits c.args.keys.now c.partition_point-first.result
    (IsPartitionPoint-from_clause (λ k. ltb (group_in k) c.args.group.bits) _ _ c.partition_point-first.ensures.partitioned
    (IsPartitionedBy-ltb group_in _ c.args.group.bits c.requires) (λ a r q k. search rules))

pub returns-clause-order : goal.returns-clause-order
returns-clause-order c = order_from c.args.group.bits c.args.keys.now c.partition_point-first.result c.requires
