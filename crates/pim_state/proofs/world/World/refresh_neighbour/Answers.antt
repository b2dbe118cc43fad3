use Rattle.std.{proofs.Common.{ap, ◌∙◌}}
use Rattle.pim_model.{specs.State.State}
use Rattle.pim_neighbours.{specs.Refreshed.is_refreshed}
use Rattle.pim_state.{proofs.Refreshed.elected_as_before}
use Rattle.pim_state.proofs.world.World.refresh_neighbour.Goals as goal

pub invariant_of-self-2 : goal.invariant_of-self-2
invariant_of-self-2 c =
    let w = c.self.inside in (
      c.self.invariant.0,
      c.self.invariant.1,
      c.self.invariant.2,
      elected_as_before w.interfaces.configured w.dr w.neighbours c.hello.new.self c.args.iface.number c.args.from.bits
          w.present c.args.hello.now c.len.ensures.ascending
          (ap (λ (s : State). is_refreshed s.neighbours c.args.iface.number c.args.from.bits c.args.hello.now) c.self.view_is
          ∙ c.requires)
          c.in_ok-hello.ensures.ok c.self.invariant.3,
      c.self.invariant.4,
      tt,
    )
