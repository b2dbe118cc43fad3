use Rattle.pim_bsr.{proofs.Spelled.known_reading_is_text}
use Rattle.pim_bsr.proofs.laws.known_reading_is_text.Goals as goal

pub returns : goal.returns
returns c = known_reading_is_text
