use Rattle.law_converges.{proofs.AssertingRun.packet_is_duplicate}
use Rattle.law_converges.proofs.runs.packet_is_duplicate.Goals as goal

pub returns : goal.returns
returns c = packet_is_duplicate
