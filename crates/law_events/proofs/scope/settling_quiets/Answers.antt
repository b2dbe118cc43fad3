use Rattle.law_events.{proofs.SettledRegisters.settling_quiets}
use Rattle.law_events.proofs.scope.settling_quiets.Goals as goal

pub returns : goal.returns
returns c = settling_quiets
