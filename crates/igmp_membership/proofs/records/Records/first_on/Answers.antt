use Rattle.std.{proofs.Common.{ap, sym, ◌∙◌}}
use Rattle.pim_types.{specs.Keys.is_on}
use Rattle.pim_model.{specs.Tables.rows_on}
use Rattle.igmp_membership.{proofs.Told.fits_first}
use Rattle.igmp_membership.proofs.records.Records.first_on.Goals as goal

pub returns-clause-kind : goal.returns-clause-kind
unfolding rows_on
returns-clause-kind g c =
    fits_first (λ e. is_on c.args.iface.number e.0) c.self.inside.rows
    (c.in_ok-key.key.now, c.in_ok-key.field-0-1.now) c.next.new.self c.self.invariant.fit
    (sym (c.rows_on.ensures ∙ ap (rows_on c.args.iface.number) c.rows.ensures) ∙ c.in_ok-key.ensures.steps)
