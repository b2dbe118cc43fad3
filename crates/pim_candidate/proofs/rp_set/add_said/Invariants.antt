use Rattle.std.{proofs.Common.{◌≡◌, ◌++◌, drop, map}, specs.List.All}
use Rattle.pim_candidate.{specs.RpSet.{IsShort, said_range, said_value}}
use Rattle.pim_candidate.proofs.rp_set.add_said.Given as goal

abbrev pub invariant-loop-one : goal.invariant-loop-one
invariant-loop-one l = record {
  value : map said_value l.said.items ++ map (said_range l.held) (drop l.one-index l.firsts) ≡ map said_value l.fn.said.items ++ map (said_range l.held) l.firsts;
  short : All IsShort l.fn.said.items → All IsShort l.said.items;
}
