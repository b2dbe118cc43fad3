use Rattle.std.{proofs.Common.{None, ap}}
use Rattle.igmp_membership.{proofs.Kept.kept_after_set, specs.{MembershipTables.is_source_kind, Sources.IsSourceKind}}
use Rattle.igmp_membership.proofs.sendings.Sendings.set.Goals as goal

pub invariant_of-self : goal.invariant_of-self
invariant_of-self c =
    kept_after_set IsSourceKind c.source.result c.self.inside.rows _ c.self.invariant None c.set.result c.args.row
    (ap is_source_kind c.source.ensures) c.set.ensures.ok c.set.ensures.err
