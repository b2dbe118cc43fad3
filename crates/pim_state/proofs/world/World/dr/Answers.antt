use Rattle.std.{proofs.Common.{ap, nat_lt, ◌&&◌, ◌∙◌}}
use Rattle.pim_model.{specs.{Neighbours.is_dr, State.State}}
use Rattle.pim_state.proofs.world.World.dr.Goals as goal

pub returns : goal.returns
unfolding is_dr
returns c = λ i. c.self.invariant.3 i ∙ ap (λ (w : State). nat_lt i 120 && is_dr w i) c.self.view_is
