use Rattle.std.{proofs.Common.{◌≡◌, ◌++◌, drop, map}, specs.List.All}
use Rattle.pim_candidate.{specs.RpSet.{IsShort, said_gone, said_value}}
use Rattle.pim_candidate.proofs.rp_set.add_said_gone.Given as goal

abbrev pub invariant-loop-range : goal.invariant-loop-range
invariant-loop-range l = record {
  value : map said_value l.said.items ++ map (said_gone) (drop l.range-index l.gone) ≡ map said_value l.fn.said.items ++ map (said_gone) l.gone;
  short : All IsShort l.fn.said.items → All IsShort l.said.items;
}
