use Rattle.law_streams.{proofs.Asks.record_asks_few}
use Rattle.law_streams.proofs.promises.record_asks_few.Goals as goal

pub returns : goal.returns
returns c = record_asks_few
