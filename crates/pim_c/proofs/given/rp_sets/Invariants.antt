-- Those that were read so far.
use Rattle.std.{proofs.Common.{◌≡◌, map, take}}
use Rattle.pim_c.{specs.Given.rp_set_of}
use Rattle.pim_c.proofs.given.rp_sets.Given as goal

abbrev pub invariant-loop-one : goal.invariant-loop-one
invariant-loop-one l = l.all.items ≡ map rp_set_of (take l.one-index l.given)
