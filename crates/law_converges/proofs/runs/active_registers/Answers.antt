use Rattle.law_converges.{proofs.SourceActiveRun.active_registers}
use Rattle.law_converges.proofs.runs.active_registers.Goals as goal

pub returns : goal.returns
returns c = active_registers
