use Rattle.igmp_membership.{proofs.Going.{goes_alone, stays_alone}}
use Rattle.igmp_membership.proofs.stale_queries.drop_one.Goals as goal

pub returns-then-not-contains : goal.returns-then-not-contains
returns-then-not-contains c =
    goes_alone c.args.records.now c.args.key c.args.sendings.now _ (cc (c.contains.ensures, c.if-not-contains.true)) c.remove.ensures

pub returns-else-not-contains : goal.returns-else-not-contains
returns-else-not-contains c =
    stays_alone c.args.records.now c.args.key c.args.sendings.now (cc (c.contains.ensures, c.if-not-contains.false))
