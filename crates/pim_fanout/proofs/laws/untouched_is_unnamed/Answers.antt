use Rattle.pim_fanout.{proofs.Untouched.untouched_is_unnamed}
use Rattle.pim_fanout.proofs.laws.untouched_is_unnamed.Goals as goal

pub returns : goal.returns
returns c = untouched_is_unnamed
