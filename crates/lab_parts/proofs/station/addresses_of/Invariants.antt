-- The addresses of the interfaces so far.
use Rattle.std.{proofs.Common.{◌≡◌, map, take}}
use Rattle.lab_parts.proofs.station.addresses_of.Given as goal

abbrev pub invariant-loop-interface : goal.invariant-loop-interface
invariant-loop-interface l = l.addresses.items ≡ map (λ x. x.address) (take l.interface-index l.interface-items)
