use Rattle.std.{proofs.Common.{◌≡◌, ◌++◌}}
use Rattle.pim_model.{specs.Downstream.is_used}
use Rattle.pim_downstream.{specs.Naming.entry_keys}
use Rattle.pim_downstream.proofs.named.push_pruned.Given as goal

abbrev pub invariant-loop-prune : goal.invariant-loop-prune
invariant-loop-prune l =
    l.keys.items ++ entry_keys is_used l.iface.number l.group.group l.prune-iterator
    ≡ l.fn.keys.items ++ entry_keys is_used l.iface.number l.group.group l.group.prunes
