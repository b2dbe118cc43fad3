use Rattle.pim_types.{specs.Keys.is_on}
use Rattle.igmp_membership.{proofs.Kept.kept_without, specs.Sources.IsStarKind}
use Rattle.igmp_membership.proofs.repeats.Repeats.drop_on.Goals as goal

pub invariant_of-self : goal.invariant_of-self
invariant_of-self g c =
    kept_without IsStarKind (is_on c.args.iface.number) c.self.inside.rows _ c.self.invariant c.drop_on.ensures
