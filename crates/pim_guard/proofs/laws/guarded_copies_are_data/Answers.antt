use Rattle.pim_guard.{proofs.Guarded.guarded_copies_are_data}
use Rattle.pim_guard.proofs.laws.guarded_copies_are_data.Goals as goal

pub returns : goal.returns
returns c = guarded_copies_are_data
