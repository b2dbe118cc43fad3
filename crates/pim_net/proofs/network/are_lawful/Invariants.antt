use Rattle.std.{proofs.Common.{◌≡◌, drop, map}, specs.List.list_all}
use Rattle.pim_model.{specs.Network.is_node}
use Rattle.pim_net.{specs.Showing.node_of}
use Rattle.pim_net.proofs.network.are_lawful.Given as goal

abbrev pub invariant-loop-node : goal.invariant-loop-node
invariant-loop-node l =
    list_all is_node (map node_of (drop l.node-index l.nodes)) ≡ list_all is_node (map node_of l.nodes)
