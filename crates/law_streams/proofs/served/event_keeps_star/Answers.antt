use Rattle.law_streams.{proofs.Keeps.event_keeps_star}
use Rattle.law_streams.proofs.served.event_keeps_star.Goals as goal

pub returns : goal.returns
returns c = event_keeps_star
