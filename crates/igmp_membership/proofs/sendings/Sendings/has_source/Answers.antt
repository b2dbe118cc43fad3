use Rattle.std.{proofs.Common.{◌<◌, ap, arith, subst, sym, ◌∙◌}, specs.List.AllByRecursion}
use Rattle.pim_types.{specs.Keys.iface_in}
use Rattle.pim_model.{specs.Tables.has_row}
use Rattle.igmp_membership.{proofs.{OfKind.plain, Named.{none_named, one_named}}}
use Rattle.igmp_membership.proofs.sendings.Sendings.has_source.Goals as goal

pub returns-then-contains : goal.returns-then-contains
returns-then-contains c = rw (← c.self.view_is)
    (one_named c.args.name.group.bits c.args.name.source.bits c.self.inside.rows c.loop-number.number
    (ap (has_row c.self.inside.rows) (sym c.source.ensures) ∙ sym c.if-contains.ensures))

pub returns : goal.returns
returns c =
    sym (none_named c.args.name.group.bits c.args.name.source.bits c.above_interfaces-number-end.result c.args.self.now
    c.proof_rising.ensures (rw (← c.self.view_is) (plain c.self.inside.rows c.self.invariant))
    (subst (λ t. AllByRecursion (λ e. iface_in e.0 < c.above_interfaces-number-end.result) t)
    (c.iter.ensures ∙ c.self.view_is) c.above_interfaces-number-end.ensures.above)
    (λ i below. c.loop-number.invariant i (omega (arith, below, c.loop-number-test.false))))
