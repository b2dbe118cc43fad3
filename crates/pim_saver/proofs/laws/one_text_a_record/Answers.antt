use Rattle.pim_saver.{proofs.SpelledRecords.reading_is_record}
use Rattle.pim_saver.proofs.laws.one_text_a_record.Goals as goal

pub returns : goal.returns
returns c = reading_is_record
