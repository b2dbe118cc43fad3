use Rattle.igmp_older_saved.{proofs.Spelled.held_reading_is_text}
use Rattle.igmp_older_saved.proofs.laws.held_reading_is_text.Goals as goal

pub returns : goal.returns
returns c = held_reading_is_text
