use Rattle.pim_router.{proofs.Asked.reloaded_by}
use Rattle.pim_router.proofs.router.Router.reload.Goals as goal

pub returns-clause-led : goal.returns-clause-led
returns-clause-led c =
    reloaded_by c.args.self.now.standing c.take_config.new.self c.take_config.result c.args.config.now c.args.draw
    c.take_config.ensures.accepted c.take_config.ensures.put
