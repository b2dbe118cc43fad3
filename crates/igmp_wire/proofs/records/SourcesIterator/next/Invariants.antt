use Rattle.std.{proofs.Common.{◌≡◌, length, filter}}
use Rattle.pim_ip.{specs.Ipv4.is_unicast}
use Rattle.igmp_wire.proofs.records.SourcesIterator.next.Given as goal

-- what was passed over are no sources
abbrev pub invariant-loop-address : goal.invariant-loop-address
invariant-loop-address l = filter is_unicast l.self-inside.addresses ≡ filter is_unicast l.initial.self-inside.addresses

abbrev pub decreases-loop-address : goal.decreases-loop-address
decreases-loop-address l = length l.self-inside.addresses
