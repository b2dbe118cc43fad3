use Rattle.std.{proofs.Common.{Option, Some, ap, sym, ◌∙◌}}
use Rattle.pim_types.{specs.{declared.fact.SendingRow.SendingRow, Keys.same_key}}
use Rattle.pim_model.{specs.Tables.{change_row, drop_at}}
use Rattle.pim_tables.{proofs.Rows.dropped_is_changed}
use Rattle.igmp_membership.{proofs.Kept.{kept_changed, kept_without}, specs.Sources.IsSourceKind}
use Rattle.igmp_membership.proofs.sendings.Sendings.change.Goals as goal

pub invariant_of-self : goal.invariant_of-self
invariant_of-self c =
    kept_changed IsSourceKind c.args.key c.self.inside.rows _ c.self.invariant (λ _. Some c.in-Some.row) c.change.ensures.to

pub invariant_of-self-in-None : goal.invariant_of-self-in-None
unfolding drop_at
invariant_of-self-in-None c =
    kept_without IsSourceKind (same_key c.args.key) c.self.inside.rows _ c.self.invariant c.remove.ensures

pub returns-in-None : goal.returns-in-None
returns-in-None c = rw (← c.self.view_is)
    (c.remove.ensures ∙ dropped_is_changed c.args.key c.self.inside.rows
    ∙ ap (λ (o : Option SendingRow). change_row (λ _. o) c.args.key c.self.inside.rows) (sym c.in-None.is))
