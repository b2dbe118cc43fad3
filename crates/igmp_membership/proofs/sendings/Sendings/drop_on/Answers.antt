use Rattle.pim_types.{specs.Keys.is_on}
use Rattle.igmp_membership.{proofs.Kept.kept_without, specs.Sources.IsSourceKind}
use Rattle.igmp_membership.proofs.sendings.Sendings.drop_on.Goals as goal

pub invariant_of-self : goal.invariant_of-self
invariant_of-self c =
    kept_without IsSourceKind (is_on c.args.iface.number) c.self.inside.rows _ c.self.invariant c.drop_on.ensures
