use Rattle.pim_ifset.{proofs.Masks.has_empty}
use Rattle.pim_ifset.proofs.set.IfSet.new.Goals as goal

pub returns-clause-interfaces : goal.returns-clause-interfaces
returns-clause-interfaces c q = let made = c.default.ensures in rw (← made.1, made.2) (has_empty _ q)
