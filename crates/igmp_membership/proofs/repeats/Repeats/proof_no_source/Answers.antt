use Rattle.igmp_membership.{proofs.OfKind.none_named}
use Rattle.igmp_membership.proofs.repeats.Repeats.proof_no_source.Goals as goal

pub returns : goal.returns
returns g c = rw (← c.self.view_is) (none_named c.self.inside.rows c.self.invariant)
