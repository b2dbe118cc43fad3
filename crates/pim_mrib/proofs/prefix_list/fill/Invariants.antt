use Rattle.pim_mrib.{proofs.Filled.HasFrom}
use Rattle.pim_mrib.proofs.prefix_list.fill.Given as goal

abbrev pub invariant-loop-left : goal.invariant-loop-left
invariant-loop-left g l = HasFrom g.T.Prefixed.prefix_of l.values l.left l.index

abbrev pub decreases-loop-left : goal.decreases-loop-left
decreases-loop-left g l = l.left
