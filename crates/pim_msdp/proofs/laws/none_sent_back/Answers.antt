use Rattle.pim_msdp.{proofs.Taking.none_sent_back}
use Rattle.pim_msdp.proofs.laws.none_sent_back.Goals as goal

pub returns : goal.returns
returns c = none_sent_back
