use Rattle.law_streams.{proofs.Pairs.joins_are_shared}
use Rattle.law_streams.proofs.in_time.joins_are_shared.Goals as goal

pub returns : goal.returns
returns c = joins_are_shared
