use Rattle.pim_saver.{proofs.SpelledRecords.one_recording}
use Rattle.pim_saver.proofs.laws.one_recording.Goals as goal

pub returns : goal.returns
returns c = one_recording
