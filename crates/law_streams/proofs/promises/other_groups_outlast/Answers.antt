use Rattle.law_streams.{proofs.Independent.other_groups_outlast}
use Rattle.law_streams.proofs.promises.other_groups_outlast.Goals as goal

pub returns : goal.returns
returns c = other_groups_outlast
