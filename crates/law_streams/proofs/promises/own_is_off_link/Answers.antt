use Rattle.law_streams.{proofs.Addresses.own_is_off_link}
use Rattle.law_streams.proofs.promises.own_is_off_link.Goals as goal

pub returns : goal.returns
returns c = own_is_off_link
