use Rattle.law_streams.{proofs.Serves.who_asks_is_served}
use Rattle.law_streams.proofs.served.who_asks_is_served.Goals as goal

pub returns : goal.returns
returns c = who_asks_is_served
