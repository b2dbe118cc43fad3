use Rattle.std.{proofs.Common.{Option, Some, ap, sym, ◌∙◌}}
use Rattle.pim_types.{specs.Keys.{same_key, star_key}}
use Rattle.pim_model.{specs.Tables.{change_row, drop_at}}
use Rattle.pim_tables.{proofs.Rows.dropped_is_changed}
use Rattle.igmp_membership.{proofs.Kept.{kept_after_change, kept_without}, specs.Sources.IsStarKind}
use Rattle.igmp_membership.proofs.repeats.Repeats.change.Goals as goal

pub invariant_of-self : goal.invariant_of-self
unfolding drop_at
invariant_of-self g c =
    kept_without IsStarKind (same_key c.star-key.result) c.self.inside.rows _ c.self.invariant c.remove.ensures

pub invariant_of-self-2 : goal.invariant_of-self-2
invariant_of-self-2 g c =
    kept_after_change IsStarKind c.star-key.result c.self.inside.rows _ c.self.invariant g.R.Ends.kinds.1 c.change.result
    (λ _. Some c.in-Some.row) c.change.ensures.to c.change.ensures.err

pub returns-in_default : goal.returns-in_default
returns-in_default g c = rw (← c.self.view_is)
    (c.remove.ensures ∙ ap (drop_at c.self.inside.rows) c.star-key.ensures
    ∙ dropped_is_changed (star_key c.args.iface.number c.args.group.bits) c.self.inside.rows
    ∙ ap (λ (o : Option _). change_row (λ _. o) (star_key c.args.iface.number c.args.group.bits) c.self.inside.rows)
    (sym c.in_default.is))
