use Rattle.std.{proofs.Common.{ap, option_map, sym, ◌∙◌}}
use Rattle.pim_model.{specs.{State.State, Timers.next_ending}}
use Rattle.pim_tables.{specs.Ends.due_of}
use Rattle.pim_state.{specs.contracts.world.World.the_view, proofs.NextEnding.next_is_kept}
use Rattle.pim_state.proofs.world.World.keep_next.Goals as goal

pub invariant_of-self : goal.invariant_of-self
invariant_of-self c = (
  c.self.invariant.0,
  c.self.invariant.1,
  c.self.invariant.2,
  c.self.invariant.3,
  c.self.invariant.4,
  next_is_kept (the_view c.self.inside) c.next-self-inside.result
      (c.next-self-inside.ensures ∙ ap (λ (s : State). option_map due_of (next_ending s)) (sym c.self.view_is)),
)
