use Rattle.pim_asserts.{specs.Passes.source_pass, proofs.Progress.Goes}
use Rattle.pim_asserts.proofs.clearing.clear_sources_in_pass.Given as goal

abbrev pub invariant-loop-source : goal.invariant-loop-source
invariant-loop-source l =
    Goes (source_pass l.pass l.opened.group.bits) l.source-items l.fn.world l.world l.fn.turn l.turn
    l.source-index
