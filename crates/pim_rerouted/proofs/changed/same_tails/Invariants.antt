use Rattle.std.{proofs.Common.{◌≡◌, ◌-◌, drop, length}}
use Rattle.pim_rerouted.proofs.changed.same_tails.Given as goal

abbrev pub invariant-loop-count : goal.invariant-loop-count
invariant-loop-count l = drop (length l.first - l.count) l.first ≡ drop (length l.second - l.count) l.second
