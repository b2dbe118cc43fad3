use Rattle.pim_saver.{proofs.SpelledRecords.record_is_read}
use Rattle.pim_saver.proofs.laws.record_is_read.Goals as goal

pub returns : goal.returns
returns c = record_is_read
