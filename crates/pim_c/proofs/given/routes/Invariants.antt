-- Those that were read so far.
use Rattle.std.{proofs.Common.{◌≡◌, map, take}}
use Rattle.pim_c.{specs.Given.route_of}
use Rattle.pim_c.proofs.given.routes.Given as goal

abbrev pub invariant-loop-one : goal.invariant-loop-one
invariant-loop-one l = l.all ≡ map route_of (take l.one-index l.given)
