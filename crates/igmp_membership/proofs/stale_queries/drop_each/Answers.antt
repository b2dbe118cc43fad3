use Rattle.std.{proofs.Common.refl}
use Rattle.igmp_membership.{proofs.Going.one_more_goes}
use Rattle.igmp_membership.proofs.stale_queries.drop_each.Goals as goal

pub loop-key-preserved : goal.loop-key-preserved
loop-key-preserved c =
    one_more_goes c.args.keys.now c.loop-key.key-index _ _ c.loop-key.sendings _ _ c.loop-key-test.true refl c.remove.ensures
    c.loop-key.invariant
