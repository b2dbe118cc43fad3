use Rattle.std.{proofs.Common.{ap, option_map, ◌∙◌}}
use Rattle.pim_tables.{specs.Ends.due_of}
use Rattle.pim_state.{proofs.NextEnding.next_of_parts}
use Rattle.pim_state.proofs.world.World.find_next.Goals as goal

pub returns : goal.returns
returns c = rw (← c.self.view_is)
    (c.earlier-2.ensures _ _
    (c.earlier.ensures _ _ (c.earlier-pim.ensures _ _ c.next.ensures c.next-2.ensures) c.next-3.ensures)
    c.next-4.ensures
    ∙ ap (option_map due_of) (next_of_parts _))
