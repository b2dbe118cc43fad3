use Rattle.law_converges.{proofs.LinkLosersRun.nearer_asserts_in_time}
use Rattle.law_converges.proofs.runs.nearer_asserts_in_time.Goals as goal

pub returns : goal.returns
returns c = nearer_asserts_in_time
