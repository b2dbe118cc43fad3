use Rattle.std.{proofs.Common.{ap, filter, sym, ◌∙◌}}
use Rattle.pim_model.{specs.Records.is_at_group}
use Rattle.igmp_membership.{proofs.Told.fits_first}
use Rattle.igmp_membership.proofs.records.Records.first_of_group.Goals as goal

pub returns-clause-kind : goal.returns-clause-kind
returns-clause-kind g c =
    fits_first (λ e. is_at_group c.args.iface.number c.args.group.bits e.0) c.self.inside.rows
    (c.in_ok-key.key.now, c.in_ok-key.field-0-1.now) c.next.new.self c.self.invariant.fit
    (sym (c.rows_at.ensures ∙ ap (filter (λ e. is_at_group c.args.iface.number c.args.group.bits e.0)) c.rows.ensures)
    ∙ c.in_ok-key.ensures.steps)
