use Rattle.law_streams.{proofs.Copies.ttl_falls}
use Rattle.law_streams.proofs.promises.ttl_falls.Goals as goal

pub returns : goal.returns
returns c = ttl_falls
