use Rattle.std.{proofs.Common.◌≡◌}
use Rattle.law_states.{specs.Resting.are_up}
use Rattle.pim_worlds.proofs.settled.are_up.Given as goal

abbrev pub invariant-loop-key : goal.invariant-loop-key
invariant-loop-key g l = are_up l.world l.key-iterator ≡ are_up l.fn.world l.fn.rows
