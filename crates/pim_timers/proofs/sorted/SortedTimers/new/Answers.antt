use Rattle.std.{proofs.Common.refl}
use Rattle.pim_timers.{specs.Dues.is_among, proofs.Together.none_together}
use Rattle.pim_timers.proofs.sorted.SortedTimers.new.Goals as goal

pub invariant_of-result : goal.invariant_of-result
unfolding is_among
invariant_of-result c = none_together c.new-2.result (is_among c.new.result) c.new-2.ensures
    (λ d. rw c.new.ensures refl)
