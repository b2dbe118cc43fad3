use Rattle.std.{proofs.Common.{◌≡◌, ◌++◌, drop, filter, map}}
use Rattle.pim_bsr.{specs.Table.{given_of, is_given, range_of}}
use Rattle.pim_bsr.proofs.given.given_of.Given as goal

abbrev pub invariant-loop-learned : goal.invariant-loop-learned
invariant-loop-learned l =
    l.ranges.items ++ map range_of (filter (is_given l.configured l.rps) (drop l.learned-index l.rps)) ≡ given_of l.configured l.rps
