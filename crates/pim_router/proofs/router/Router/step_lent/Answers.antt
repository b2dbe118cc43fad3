use Rattle.pim_router.{proofs.Asked.{asked_by, led_by}}
use Rattle.pim_router.proofs.router.Router.step_lent.Goals as goal

pub returns-clause-asked : goal.returns-clause-asked
returns-clause-asked c =
    asked_by c.args.self.now.standing c.take_lent.new.self c.take_lent.result c.args.emissions.now.items
    c.take_lent.new.emissions.items c.args.event.now c.take_lent.ensures.stepped

pub returns-clause-led : goal.returns-clause-led
returns-clause-led c =
    led_by c.args.self.now.standing c.take_lent.new.self c.take_lent.result c.args.emissions.now.items
    c.take_lent.new.emissions.items c.args.event.now c.take_lent.ensures.stepped
