use Rattle.law_streams.{proofs.StreamRoots.run_keeps_sending}
use Rattle.law_streams.proofs.stream.run_keeps_sending.Goals as goal

pub returns : goal.returns
returns c = run_keeps_sending
