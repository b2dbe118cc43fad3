use Rattle.law_streams.{proofs.InTime.joins_in_time_keep_passing}
use Rattle.law_streams.proofs.stream.joins_in_time_keep_passing.Goals as goal

pub returns : goal.returns
returns c = joins_in_time_keep_passing
