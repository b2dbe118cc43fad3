use Rattle.std.{proofs.Common.{◌≡◌, ◌++◌, map, take, drop}}
use Rattle.pim_bsr.{specs.Table.with_mask}
use Rattle.pim_bsr.proofs.table.mask_rps.Given as goal

abbrev pub invariant-loop-learned : goal.invariant-loop-learned
invariant-loop-learned l = l.rps ≡ map (with_mask l.hash_length) (take l.learned-index l.initial.rps) ++ drop l.learned-index l.initial.rps
