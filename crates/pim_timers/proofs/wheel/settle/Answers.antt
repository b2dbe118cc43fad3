use Rattle.pim_timers.{specs.{Armed.holds, Ends.same_timer}, proofs.Armed.right_unless}
use Rattle.std.specs.FinMap as map
use Rattle.pim_timers.proofs.wheel.settle.Goals as goal

pub settle-requires-clause-right : goal.settle-requires-clause-right
settle-requires-clause-right c = λ right.
    right_unless (map.get c.args.moments.now) (holds c.args.queue.now) (λ t. same_timer t c.args.timer) c.first.result
    c.is_of-is_own.result c.first.ensures c.is_of-is_own.ensures right c.requires.others
