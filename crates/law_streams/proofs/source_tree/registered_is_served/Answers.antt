use Rattle.law_streams.{proofs.SourceTreeRegistered.registered_is_served}
use Rattle.law_streams.proofs.source_tree.registered_is_served.Goals as goal

pub returns : goal.returns
returns c = registered_is_served
