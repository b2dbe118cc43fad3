-- The deliveries so far, and those of the routers that are left.
use Rattle.std.{proofs.Common.{◌≡◌, ◌++◌, drop}}
use Rattle.lab_parts.{specs.Settling.to_routers}
use Rattle.lab_parts.proofs.frames.OnLink.to_routers.Given as goal

abbrev pub invariant-loop-router : goal.invariant-loop-router
invariant-loop-router l = l.found.items ++ to_routers l.self l.router (drop l.router l.stations) ≡ to_routers l.self 0 l.stations
