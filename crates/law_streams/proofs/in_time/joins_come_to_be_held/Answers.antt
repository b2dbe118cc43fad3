use Rattle.law_streams.{proofs.Pairs.joins_come_to_be_held}
use Rattle.law_streams.proofs.in_time.joins_come_to_be_held.Goals as goal

pub returns : goal.returns
returns c = joins_come_to_be_held
