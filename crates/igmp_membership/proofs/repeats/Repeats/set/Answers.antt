use Rattle.std.{proofs.Common.ap}
use Rattle.igmp_membership.{proofs.Kept.kept_after_set, specs.{MembershipTables.is_star_kind, Sources.IsStarKind}}
use Rattle.igmp_membership.proofs.repeats.Repeats.set.Goals as goal

pub invariant_of-self : goal.invariant_of-self
invariant_of-self g c =
    kept_after_set IsStarKind c.star.result c.self.inside.rows _ c.self.invariant g.R.Ends.kinds.1 c.set.result c.args.row
    (ap is_star_kind c.star.ensures) c.set.ensures.ok c.set.ensures.err
