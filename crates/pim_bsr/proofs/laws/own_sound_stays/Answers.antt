use Rattle.pim_bsr.{proofs.Own.own_sound_stays}
use Rattle.pim_bsr.proofs.laws.own_sound_stays.Goals as goal

pub returns : goal.returns
returns c = own_sound_stays
