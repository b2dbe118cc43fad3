use Rattle.std.{proofs.Common.{◌≡◌, ◌≤◌, ◌++◌, drop, filter, length, map}}
use Rattle.pim_candidate.{specs.RpSet.{is_of, said_rp}}
use Rattle.pim_candidate.proofs.rp_set.said_rps.Given as goal

abbrev pub invariant-loop-one : goal.invariant-loop-one
invariant-loop-one l = record {
  value : l.rps.items ++ map said_rp (filter (is_of l.prefix) (drop l.one-index l.held)) ≡ map said_rp (filter (is_of l.prefix) l.held);
  few : length l.rps.items ≤ l.one-index;
}
