use Rattle.pim_router.{proofs.Asked.placed_by}
use Rattle.pim_router.proofs.router.Router.reload_places.Goals as goal

pub returns-clause-led : goal.returns-clause-led
returns-clause-led c =
    placed_by c.args.self.now.standing c.take_places.new.self c.take_places.result c.args.places.now c.args.config.now
    c.args.draw c.take_places.ensures.accepted c.take_places.ensures.fit c.take_places.ensures.put
