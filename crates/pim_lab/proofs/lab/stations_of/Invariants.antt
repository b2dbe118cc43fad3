-- The nodes so far are those of the routers so far.
use Rattle.std.{proofs.Common.{◌≡◌, ◌++◌, length, map}, specs.Vec.Iter.{into_iter_items, into_iter_len}}
use Rattle.pim_net.{specs.Showing.node_of}
use Rattle.pim_lab.{specs.Statuses.router_node}
use Rattle.pim_lab.proofs.lab.stations_of.Given as goal

abbrev pub invariant-loop-text : goal.invariant-loop-text
invariant-loop-text l =
    (map node_of l.nodes.items ++ map router_node (into_iter_items l.text-iterator) ≡ map router_node l.fn.texts)
    × (into_iter_len l.text-iterator ≡ length (into_iter_items l.text-iterator))
    × (goal.iterator-loop-text).can_next l.text-iterator × (goal.iterator-loop-text).is_finite l.text-iterator
