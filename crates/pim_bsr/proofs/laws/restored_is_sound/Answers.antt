use Rattle.pim_bsr.{proofs.Restored.restored_is_sound}
use Rattle.pim_bsr.proofs.laws.restored_is_sound.Goals as goal

pub returns : goal.returns
returns c = restored_is_sound
