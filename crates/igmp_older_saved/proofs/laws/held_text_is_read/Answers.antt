use Rattle.igmp_older_saved.{proofs.Spelled.held_text_is_read}
use Rattle.igmp_older_saved.proofs.laws.held_text_is_read.Goals as goal

pub returns : goal.returns
returns c = held_text_is_read
