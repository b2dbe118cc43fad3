use Rattle.pim_runs.{proofs.StreamChain.nothing_ends_stream}
use Rattle.pim_runs.proofs.streams.nothing_ends_stream.Goals as goal

pub returns : goal.returns
returns c = nothing_ends_stream
