use Rattle.std.{proofs.Common.{[], fold, take}}
use Rattle.pim_model.{specs.Full.once_more}
use Rattle.pim_querier.{proofs.Missing.Counts}
use Rattle.pim_querier.proofs.named.missing.Given as goal

abbrev pub invariant-loop-key : goal.invariant-loop-key
invariant-loop-key g l =
    Counts (g.R.Made.rows l.world) (fold once_more [] (take l.key-index l.keys)) l.missing.keys
