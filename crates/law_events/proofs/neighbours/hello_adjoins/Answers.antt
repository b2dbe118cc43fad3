use Rattle.law_events.{proofs.Hellos.hello_adjoins}
use Rattle.law_events.proofs.neighbours.hello_adjoins.Goals as goal

pub returns : goal.returns
returns c = hello_adjoins
