-- The deliveries so far, and those of the links that are left.
use Rattle.std.{proofs.Common.{◌≡◌, ◌++◌, drop}}
use Rattle.lab_parts.{specs.Settling.to_interfaces}
use Rattle.lab_parts.proofs.frames.OnLink.to_interfaces.Given as goal

abbrev pub invariant-loop-place : goal.invariant-loop-place
invariant-loop-place l =
    l.found.items ++ to_interfaces l.self l.router l.place (drop l.place l.links)
    ≡ l.fn.found.items ++ to_interfaces l.self l.router 0 l.links
