use Rattle.law_streams.{proofs.Independent.other_groups_keep}
use Rattle.law_streams.proofs.promises.other_groups_keep.Goals as goal

pub returns : goal.returns
returns c = other_groups_keep
