use Rattle.pim_model.{specs.Unicast.{route, rp_of, rp_route}}
use Rattle.pim_state.{proofs.Short.next_is_short}
use Rattle.pim_state.proofs.world.World.proof_short_preferences.Goals as goal

pub returns-clause-source : goal.returns-clause-source
unfolding route
returns-clause-source c = rw (← c.self.view_is)
    (λ address.
    c.proof_short_preferences.ensures c.self.inside.interfaces.configured c.self.inside.interfaces.rows address)

pub returns-clause-group : goal.returns-clause-group
unfolding rp_route
returns-clause-group c = λ group.
    next_is_short (route c.args.self.now) (returns-clause-source c) (rp_of c.args.self.now group)
