use Rattle.pim_state.{proofs.NextEnding.kept_is_next}
use Rattle.pim_state.proofs.world.World.next.Goals as goal

pub returns-in-Some : goal.returns-in-Some
returns-in-Some c = rw (← c.self.view_is) (kept_is_next _ _ _ c.in-Some.is c.self.invariant.5)
