use Rattle.pim_types.{specs.Keys.same_key}
use Rattle.pim_model.{specs.Tables.drop_at}
use Rattle.igmp_membership.{proofs.Kept.kept_without, specs.Sources.IsStarKind}
use Rattle.igmp_membership.proofs.repeats.Repeats.remove.Goals as goal

pub invariant_of-self : goal.invariant_of-self
unfolding drop_at
invariant_of-self g c =
    kept_without IsStarKind (same_key c.star.result) c.self.inside.rows _ c.self.invariant c.remove.ensures
