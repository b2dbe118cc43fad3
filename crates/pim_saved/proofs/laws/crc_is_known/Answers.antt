use Rattle.pim_saved.{proofs.Summed.crc_is_known}
use Rattle.pim_saved.proofs.laws.crc_is_known.Goals as goal

pub returns : goal.returns
returns c = crc_is_known
