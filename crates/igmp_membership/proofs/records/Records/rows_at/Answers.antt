use Rattle.std.{proofs.Common.{◌<◌, ap, filter, length, subst, ◌∙◌}}
use Rattle.pim_model.{specs.Records.is_at_group}
use Rattle.igmp_membership.{proofs.Told.near_rows}
use Rattle.igmp_membership.proofs.records.Records.rows_at.Goals as goal

pub returns-clause-near : goal.returns-clause-near
returns-clause-near g c = λ some.
    near_rows c.args.iface.number c.args.group.bits c.self.inside.rows c.self.invariant.fit
    (subst (λ t. 0 < length t) (c.rows_at.ensures ∙ ap (filter (λ e. is_at_group c.args.iface.number c.args.group.bits e.0)) c.rows.ensures) some)
