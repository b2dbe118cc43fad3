use Rattle.law_streams.{proofs.Shared.join_suppresses}
use Rattle.law_streams.proofs.in_time.join_suppresses.Goals as goal

pub returns : goal.returns
returns c = join_suppresses
