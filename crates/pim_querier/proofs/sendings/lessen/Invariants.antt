use Rattle.std.{proofs.Common.{◌≡◌, drop, fold}}
use Rattle.pim_querier.{specs.Changes.{one_less, sending_changed}}
use Rattle.pim_querier.proofs.sendings.lessen.Given as goal

abbrev pub invariant-loop-key : goal.invariant-loop-key
invariant-loop-key l =
    fold (sending_changed one_less) l.world (drop l.key-index l.sendings)
    ≡ fold (sending_changed one_less) l.fn.world l.sendings
