use Rattle.law_streams.{proofs.Serving.passing_serves}
use Rattle.law_streams.proofs.stream.passing_serves.Goals as goal

pub returns : goal.returns
returns c = passing_serves
