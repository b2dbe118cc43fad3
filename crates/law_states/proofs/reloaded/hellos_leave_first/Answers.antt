use Rattle.law_states.{proofs.Hellos.hellos_leave_first}
use Rattle.law_states.proofs.reloaded.hellos_leave_first.Goals as goal

pub returns : goal.returns
returns c = hellos_leave_first
