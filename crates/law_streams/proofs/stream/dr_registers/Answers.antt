use Rattle.law_streams.{proofs.Registering.dr_registers}
use Rattle.law_streams.proofs.stream.dr_registers.Goals as goal

pub returns : goal.returns
returns c = dr_registers
