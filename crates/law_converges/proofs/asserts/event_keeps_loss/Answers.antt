use Rattle.law_converges.{proofs.KeptLosses.event_keeps_loss}
use Rattle.law_converges.proofs.asserts.event_keeps_loss.Goals as goal

pub returns : goal.returns
returns c = event_keeps_loss
