use Rattle.std.{proofs.Common.filter}
use Rattle.pim_model.{specs.{Hellos.is_lost_to, Tables.keys_in}}
use Rattle.law_settled.{proofs.FoundRows.Keeps}
use Rattle.pim_hello.proofs.restarted.asserts_lost_to.Given as goal

abbrev pub invariant-loop-key : goal.invariant-loop-key
invariant-loop-key l =
    Keeps (is_lost_to l.neighbour.iface.number l.neighbour.address.bits)
    (keys_in (filter (is_lost_to l.neighbour.iface.number l.neighbour.address.bits) l.fn.world.asserts)) l.keys.items
    l.key-iterator
