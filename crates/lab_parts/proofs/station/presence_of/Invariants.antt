-- A setting for each interface so far.
use Rattle.std.{proofs.Common.{◌≡◌, map, take}}
use Rattle.lab_parts.proofs.station.presence_of.Given as goal

abbrev pub invariant-loop-interface : goal.invariant-loop-interface
invariant-loop-interface l = l.hosts.items ≡ map (λ _. l.older_hosts) (take l._interface-index l._interface-items)
