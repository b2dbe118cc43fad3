use Rattle.std.{proofs.Common.{◌≡◌, is_some, sym, ap, subst, ◌∙◌}}
use Rattle.pim_timers.{specs.{Armed.{IsSettled, holds}, Schedule.Contents}, proofs.{Changes.{restored, set_armed, set_right, settled_kept}, Together.own_inserted}}
use Rattle.std.specs.FinMap as map
use Rattle.pim_timers.proofs.wheel.WheelTimers.set.Goals as goal

pub put_back-requires : goal.put_back-requires
put_back-requires c =
    ap (λ (s : Contents). is_some (map.get s c.args.timer)) c.in_ok-before.ensures.ok
    ∙ ap is_some (own_inserted c.self.inside.moments c.args.timer c.args.moment)

as_before : (c : goal.After-put_back) → c.put_back.new.self ≡ c.self.inside.moments
as_before c =
    restored c.self.inside.moments c.insert.new.self c.put_back.new.self c.args.timer c.args.moment c.in_ok-before.before
    c.in_ok-before.ensures.before c.in_ok-before.ensures.ok c.put_back.ensures

pub invariant_of-self-in-Err : goal.invariant_of-self-in-Err
invariant_of-self-in-Err c =
    subst (λ (s : Contents). IsSettled (map.get s) (map.len s) c.arm.new.self) (sym (as_before c))
    (settled_kept (map.get c.self.inside.moments) (map.len c.self.inside.moments) c.self.inside.queue c.arm.new.self
    c.in-Err.ensures.err c.self.invariant)

pub returns-in-Err-clause-err : goal.returns-in-Err-clause-err
returns-in-Err-clause-err c = as_before c ∙ c.self.view_is

pub settle-requires-clause-armed : goal.settle-requires-clause-armed
settle-requires-clause-armed c =
    set_armed c.self.inside.moments c.insert.new.self c.args.timer (holds c.self.inside.queue) (holds c.arm.new.self)
    c.args.moment c.in_ok-before.ensures.ok c.arm.ensures.grows c.self.invariant.armed c.in_default.ensures.ok

pub settle-requires-clause-others : goal.settle-requires-clause-others
settle-requires-clause-others c =
    set_right c.self.inside.moments c.insert.new.self c.args.timer (holds c.self.inside.queue) (holds c.arm.new.self)
    c.args.moment c.in_ok-before.ensures.ok c.arm.ensures.grows c.self.invariant.real c.arm.ensures.others
