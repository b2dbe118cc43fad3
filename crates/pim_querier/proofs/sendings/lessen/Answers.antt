use Rattle.std.{proofs.Common.{ap, refl}}
use Rattle.pim_state.{specs.Lending.with_membership}
use Rattle.pim_querier.{proofs.Sent.one_more_less}
use Rattle.pim_querier.proofs.sendings.lessen.Goals as goal

pub loop-key-preserved : goal.loop-key-preserved
loop-key-preserved c =
    one_more_less c.args.sendings.now c.loop-key.key-index _ _ c.loop-key.world _ _
    c.one_less.result c.loop-key-test.true refl c.one_less.ensures
    (ap (with_membership c.loop-key.world) (rw c.membership_mut.ensures.value at c.change_sending.ensures))
    c.loop-key.invariant
