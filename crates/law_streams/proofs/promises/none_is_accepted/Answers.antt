use Rattle.law_streams.{proofs.Addresses.none_is_accepted}
use Rattle.law_streams.proofs.promises.none_is_accepted.Goals as goal

pub returns : goal.returns
returns c = none_is_accepted
