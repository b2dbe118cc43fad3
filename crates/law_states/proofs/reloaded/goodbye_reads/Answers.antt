use Rattle.law_states.{proofs.Goodbyes.goodbye_reads}
use Rattle.law_states.proofs.reloaded.goodbye_reads.Goals as goal

pub returns : goal.returns
returns c = goodbye_reads
