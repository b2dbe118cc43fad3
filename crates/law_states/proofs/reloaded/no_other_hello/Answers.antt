use Rattle.law_states.{proofs.Hellos.no_other_hello}
use Rattle.law_states.proofs.reloaded.no_other_hello.Goals as goal

pub returns : goal.returns
returns c = no_other_hello
