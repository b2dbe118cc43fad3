use Rattle.std.{proofs.Common.{◌≡◌, ◌++◌, filter, map}}
use Rattle.pim_types.{specs.Keys.source_key}
use Rattle.pim_model.{specs.Unicast.route}
use Rattle.law_events.{specs.Adjacent.leads_to}
use Rattle.pim_state.{specs.Groups.numbers_of}
use Rattle.pim_hello.proofs.towards.put_sources.Given as goal

abbrev pub invariant-loop-source : goal.invariant-loop-source
invariant-loop-source l =
    l.keys.items ++ map (source_key 0 l.group.bits)
    (filter (λ src. leads_to l.neighbour.iface.number l.neighbour.address.bits (route l.world src))
    (numbers_of l.source-iterator))
    ≡ l.fn.keys.items ++ map (source_key 0 l.group.bits)
    (filter (λ src. leads_to l.neighbour.iface.number l.neighbour.address.bits (route l.world src))
    (numbers_of l.fn.sources.entries))
