use Rattle.law_streams.{proofs.Shared.frames_come_to_both}
use Rattle.law_streams.proofs.in_time.frames_come_to_both.Goals as goal

pub returns : goal.returns
returns c = frames_come_to_both
