use Rattle.std.{proofs.Common.take}
use Rattle.pim_downstream.{proofs.RptGroups.AreGroups}
use Rattle.pim_downstream.proofs.rpt.joined_groups.Given as goal

abbrev pub invariant-loop-key : goal.invariant-loop-key
invariant-loop-key l = AreGroups l.iface.number (take l.key-index l.joined) l.groups.keys
