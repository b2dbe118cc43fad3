use Rattle.pim_types.{specs.Keys.same_key}
use Rattle.pim_model.{specs.Tables.drop_at}
use Rattle.igmp_membership.{proofs.Kept.kept_without, specs.Sources.IsSourceKind}
use Rattle.igmp_membership.proofs.sendings.Sendings.remove.Goals as goal

pub invariant_of-self : goal.invariant_of-self
unfolding drop_at
invariant_of-self c = kept_without IsSourceKind (same_key c.args.key) c.self.inside.rows _ c.self.invariant c.remove.ensures
