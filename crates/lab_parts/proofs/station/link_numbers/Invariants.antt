-- The numbers of the links so far.
use Rattle.std.{proofs.Common.{◌≡◌, map, take}}
use Rattle.lab_parts.proofs.station.link_numbers.Given as goal

abbrev pub invariant-loop-link : goal.invariant-loop-link
invariant-loop-link l = l.numbers ≡ map (λ x. x.number) (take l.link-index l.links)
