use Rattle.pim_model.{specs.Clearing.clearable_count}
use Rattle.pim_asserts.{specs.{Going.source_bits, Opened.clear_unneeded_asserts}, proofs.Progress.Stands}
use Rattle.pim_asserts.proofs.part.clear_unneeded_asserts.Given as goal

abbrev pub invariant-loop : goal.invariant-loop
invariant-loop l =
    Stands (clear_unneeded_asserts l.part.was l.part.group.bits (source_bits l.part.source) l.world)
    (clear_unneeded_asserts l.part.was l.part.group.bits (source_bits l.part.source) l.fn.world) l.turn l.fn.turn

abbrev pub decreases-loop : goal.decreases-loop
decreases-loop l = clearable_count l.world
