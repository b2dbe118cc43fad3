use Rattle.std.proofs.{Common.{rules, leb}, lemmas.List.Sorted.{IsPartitionPoint-from_clause, IsPartitionedBy-leb}}
use Rattle.pim_types.{specs.Keys.group_in}
use Rattle.pim_fanout.{proofs.Grouping.up_to_place}
use Rattle.pim_fanout.proofs.before.up_to.Goals as goal

pub returns : goal.returns
returns c =
    up_to_place c.args.group.bits c.args.keys.now c.partition_point-count.result
    (IsPartitionPoint-from_clause (λ k. leb (group_in k) c.args.group.bits) _ _ c.partition_point-count.ensures.partitioned
    (IsPartitionedBy-leb group_in _ c.args.group.bits c.requires) (λ a r q k. search rules))
