use Rattle.std.{proofs.Common.{◌≡◌, ◌++◌}}
use Rattle.pim_downstream.{specs.Naming.{entry_keys, is_counted}}
use Rattle.pim_downstream.proofs.named.push_joined.Given as goal

abbrev pub invariant-loop-join : goal.invariant-loop-join
invariant-loop-join l =
    l.keys.items ++ entry_keys (is_counted l.world) l.iface.number l.group.group l.join-iterator
    ≡ l.fn.keys.items ++ entry_keys (is_counted l.world) l.iface.number l.group.group l.group.joins
