use Rattle.pim_asserts.{specs.Passes.group_pass, proofs.Progress.Goes}
use Rattle.pim_asserts.proofs.clearing.clear_groups_in_pass.Given as goal

abbrev pub invariant-loop-opened : goal.invariant-loop-opened
invariant-loop-opened l =
    Goes (group_pass l.pass) l.groups l.fn.world l.world l.fn.turn l.turn l.opened-index
