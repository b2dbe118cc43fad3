use Rattle.std.{proofs.Common.{[], refl}}
use Rattle.pim_tables.{proofs.Steps.none_in_step}
use Rattle.pim_tables.proofs.end_queue.EndQueue.new.Goals as goal

pub returns : goal.returns
returns g c = none_in_step g.R.Ends.kinds g.R.Ends.ends c.new.result [] c.new.ensures refl
