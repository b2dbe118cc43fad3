use Rattle.std.{proofs.Common.{subst, sym, ◌∙◌}}
use Rattle.igmp_membership.{proofs.Going.{each_goes_unrecorded, none_goes, none_there, one_goes}, specs.StaleQueries.HaveRecords}
use Rattle.igmp_membership.proofs.stale_queries.StaleQueries.discard.Goals as goal

pub returns-in-Empty-clause-ok : goal.returns-in-Empty-clause-ok
returns-in-Empty-clause-ok c =
    none_goes c.args.iface.number c.args.group.bits c.args.records.now c.args.sendings.now
    (subst (λ u. HaveRecords u c.args.records.now c.args.sendings.now) c.in-Empty.is c.requires)

pub returns-then-is_at-clause-ok : goal.returns-then-is_at-clause-ok
returns-then-is_at-clause-ok c =
    one_goes c.args.iface.number c.args.group.bits c.args.records.now c.args.sendings.now c.in-OfSource.key
    (subst (λ u. HaveRecords u c.args.records.now c.args.sendings.now) c.in-OfSource.is c.requires) _
    (sym c.is_at.ensures ∙ c.if-is_at.true) c.drop_one.ensures

pub returns-else-is_at-clause-ok : goal.returns-else-is_at-clause-ok
returns-else-is_at-clause-ok c =
    none_there c.args.iface.number c.args.group.bits c.args.records.now c.args.sendings.now c.in-OfSource.key
    (subst (λ u. HaveRecords u c.args.records.now c.args.sendings.now) c.in-OfSource.is c.requires)
    (sym c.is_at.ensures ∙ c.if-is_at.false)

pub returns-in_ok-keys-in-OfGroup-clause-ok : goal.returns-in_ok-keys-in-OfGroup-clause-ok
returns-in_ok-keys-in-OfGroup-clause-ok c =
    each_goes_unrecorded c.args.iface.number c.args.group.bits c.args.records.now c.args.sendings.now c.deref.result.now _
    (c.deref.ensures.value ∙ c.in_ok-keys-in-OfGroup.ensures) c.drop_each.ensures
