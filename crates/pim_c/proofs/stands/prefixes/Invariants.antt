-- Those that were read so far.
use Rattle.std.{proofs.Common.{◌≡◌, map, take}}
use Rattle.pim_c.{specs.Candidacies.prefix_of}
use Rattle.pim_c.proofs.stands.prefixes.Given as goal

abbrev pub invariant-loop-one : goal.invariant-loop-one
invariant-loop-one l = l.all.items ≡ map prefix_of (take l.one-index l.given)
