use Rattle.std.{proofs.Common.{sym, ◌∙◌}}
use Rattle.igmp_membership.{proofs.Going.only_here}
use Rattle.igmp_membership.proofs.stale_queries.StaleQueries.without.Goals as goal

pub returns-in-OfSource : goal.returns-in-OfSource
returns-in-OfSource c =
    only_here c.args.iface.number c.args.group.bits c.in-OfSource.key c.args.self c.in-OfSource.is (sym c.is_at.ensures ∙ c.if-is_at.true)
