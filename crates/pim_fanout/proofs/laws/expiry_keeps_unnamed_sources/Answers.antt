use Rattle.pim_fanout.{proofs.Others.expiry_keeps_unnamed_sources}
use Rattle.pim_fanout.proofs.laws.expiry_keeps_unnamed_sources.Goals as goal

pub returns : goal.returns
returns c = expiry_keeps_unnamed_sources
