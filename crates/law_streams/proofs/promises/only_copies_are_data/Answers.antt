use Rattle.law_streams.{proofs.Copies.only_copies_are_data}
use Rattle.law_streams.proofs.promises.only_copies_are_data.Goals as goal

pub returns : goal.returns
returns c = only_copies_are_data
