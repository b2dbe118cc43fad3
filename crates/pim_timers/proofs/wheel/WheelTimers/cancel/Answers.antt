use Rattle.std.{proofs.Common.{sym, subst, ◌∙◌}}
use Rattle.pim_timers.{specs.{Armed.{IsSettled, holds}, Schedule.Contents}, proofs.{Changes.{gone_armed, gone_right, none_gone}, Held.not_some}}
use Rattle.std.specs.FinMap as map
use Rattle.pim_timers.proofs.wheel.WheelTimers.cancel.Goals as goal

pub settle-requires-clause-armed : goal.settle-requires-clause-armed
settle-requires-clause-armed c =
    gone_armed c.self.inside.moments c.remove.new.self c.args.timer (holds c.self.inside.queue) (holds c.self.inside.queue)
    c.remove.ensures.contents c.self.invariant.armed

pub settle-requires-clause-others : goal.settle-requires-clause-others
settle-requires-clause-others c =
    gone_right c.self.inside.moments c.remove.new.self c.args.timer (holds c.self.inside.queue) (holds c.self.inside.queue)
    c.remove.ensures.contents c.self.invariant.real

pub invariant_of-self-else-is_some : goal.invariant_of-self-else-is_some
invariant_of-self-else-is_some c =
    subst (λ (s : Contents). IsSettled (map.get s) (map.len s) c.self.inside.queue)
    (sym (c.remove.ensures.contents ∙ none_gone c.self.inside.moments c.args.timer
    (sym c.remove.ensures.before ∙ not_some c.remove.result (sym c.is_some.ensures ∙ c.if-is_some.false)))) c.self.invariant
