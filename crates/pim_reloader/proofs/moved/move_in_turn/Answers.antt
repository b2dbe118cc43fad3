use Rattle.std.{proofs.Common.{[], ap, ◌∙◌}}
use Rattle.pim_model.{specs.{Firing.settled, State.State}}
use Rattle.law_states.{specs.Placing.{moved, without_neighbours}}
use Rattle.pim_reloader.proofs.moved.move_in_turn.Goals as goal

pub returns-clause-state : goal.returns-clause-state
unfolding moved
returns-clause-state c =
    c.in_ok-sent.ensures.state
    ∙ ap (λ (t : State). (settled t (without_neighbours c.args.apart.now t, []) c.args.turn.now.draw).0) c.in_ok-core.ensures.placed

pub returns-clause-sent : goal.returns-clause-sent
unfolding moved
returns-clause-sent c =
    c.in_ok-sent.ensures.sent
    ∙ ap (λ (t : State). (settled t (without_neighbours c.args.apart.now t, []) c.args.turn.now.draw).1) c.in_ok-core.ensures.placed
