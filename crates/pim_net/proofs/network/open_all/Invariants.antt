-- The stations so far are those of the first nodes, which passed their tests.
use Rattle.std.{proofs.Common.{◌≡◌, length}, specs.Vec.Iter.{into_iter_items, into_iter_len}}
use Rattle.pim_net.{proofs.Nodes.Opens}
use Rattle.pim_net.proofs.network.open_all.Given as goal

abbrev pub invariant-loop-node : goal.invariant-loop-node
invariant-loop-node l =
    Opens l.fn.nodes.items l.stations.items l.ports.items (into_iter_items l.node-iterator) l.port
    × (into_iter_len l.node-iterator ≡ length (into_iter_items l.node-iterator))
    × (goal.iterator-loop-node).can_next l.node-iterator × (goal.iterator-loop-node).is_finite l.node-iterator
