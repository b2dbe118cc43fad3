use Rattle.std.{proofs.Common.{◌≡◌, []}}
use Rattle.law_states.{specs.Placing.put_placed}
use Rattle.pim_worlds.proofs.rows.placed.Given as goal

abbrev pub invariant-loop-key : goal.invariant-loop-key
invariant-loop-key g l = put_placed l.places l.table l.key-iterator ≡ put_placed l.places [] l.fn.rows
