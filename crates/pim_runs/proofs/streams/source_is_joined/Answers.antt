use Rattle.pim_runs.{proofs.SourceChain.source_is_joined}
use Rattle.pim_runs.proofs.streams.source_is_joined.Goals as goal

pub returns : goal.returns
returns c = source_is_joined
