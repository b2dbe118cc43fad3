use Rattle.std.proofs.{Common.{None, Some, leb, rules, subst, sym, ◌∙◌}, lemmas.List.Sorted.{IsPartitionPoint-from_clause, IsPartitionedBy-leb}}
use Rattle.pim_ifaces.{specs.{declared.configured.Own.Own, Subnets.Finds}, proofs.Around.{of_before, of_place}}
use Rattle.pim_ifaces.proofs.configured.around.Goals as goal

pub returns-in-Some : goal.returns-in-Some
returns-in-Some c =
    of_before c.args.interfaces.now c.args.owns.now c.args.address.bits c.partition_point-place.result c.requires
    c.in-Some.number (sym c.around_before.ensures ∙ c.in-Some.is)

pub returns-in-None : goal.returns-in-None
returns-in-None c =
    subst (Finds c.args.interfaces.now c.args.address.bits) (sym c.around_at.ensures)
    (of_place c.args.interfaces.now c.args.owns.now c.args.address.bits c.partition_point-place.result c.requires
    c.partition_point-place.ensures.bound
    (IsPartitionPoint-from_clause (λ (o : Own). leb o.address c.args.address.bits) _ _
    c.partition_point-place.ensures.partitioned
    (IsPartitionedBy-leb (λ (o : Own). o.address) _ c.args.address.bits c.requires.order) (λ a r q k. search rules))
    (sym c.around_before.ensures ∙ c.in-None.is))
