-- Those that were read so far.
use Rattle.std.{proofs.Common.{◌≡◌, map, take}}
use Rattle.pim_c.{specs.Given.candidate_of}
use Rattle.pim_c.proofs.given.candidates.Given as goal

abbrev pub invariant-loop-one : goal.invariant-loop-one
invariant-loop-one l = l.all ≡ map candidate_of (take l.one-index l.given)
