use Rattle.pim_fanout.{specs.Refreshing.touches}
use Rattle.pim_router.{proofs.Shown.finds_room}
use Rattle.pim_router.proofs.router.Router.take_lent.Goals as goal

pub returns-in_err-hand_over-clause-sure : goal.returns-in_err-hand_over-clause-sure
returns-in_err-hand_over-clause-sure c =
    finds_room c.args.self.now c.self.inside.failed
    (record { state = c.self.inside.core.world; copies = c.self.inside.copies }) c.self.inside.probes.meter
    (touches c.self.inside.core.cache) c.self.inside.core.cache.changed (record { touched = c.self.inside.core.cache.disturbed; replaced = c.self.inside.core.replaced }) c.args.event.now c.in_ok-outcome.outcome
    c.into_vec.result.items
    _ _ c.from_residual-in_err-hand_over.result c.self.view_is c.if-self.false c.in_ok-outcome.ensures.steps.outcome
    c.into_vec.ensures
    c.args.emissions.now.ok.1 (rw c.into_vec.result.ok.0 at c.in_err-hand_over.ensures.full)
