use Rattle.pim_state.{proofs.Elected.elected_after_down}
use Rattle.pim_state.proofs.world.World.set_down.Goals as goal

pub invariant_of-self : goal.invariant_of-self
invariant_of-self c =
    let w = c.self.inside in (
      c.self.invariant.0,
      c.self.invariant.1,
      c.self.invariant.2,
      rw c.set_down.ensures
          (elected_after_down c.args.iface.number w.interfaces.configured w.dr c.with_member-self-inside.result
          w.neighbours c.drop_on.new.self c.drop_on.ensures c.self.invariant.3 c.with_member-self-inside.ensures),
      c.self.invariant.4,
      tt,
    )
