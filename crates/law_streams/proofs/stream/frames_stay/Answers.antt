use Rattle.law_streams.{proofs.Climbing.frames_stay}
use Rattle.law_streams.proofs.stream.frames_stay.Goals as goal

pub returns : goal.returns
returns c = frames_stay
