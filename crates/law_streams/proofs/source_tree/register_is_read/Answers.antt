use Rattle.law_streams.{proofs.SourceTreeRegistered.register_is_read}
use Rattle.law_streams.proofs.source_tree.register_is_read.Goals as goal

pub returns : goal.returns
returns c = register_is_read
