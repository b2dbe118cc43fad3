use Rattle.law_streams.{proofs.Addresses.others_are_of_interfaces}
use Rattle.law_streams.proofs.promises.others_are_of_interfaces.Goals as goal

pub returns : goal.returns
returns c = others_are_of_interfaces
