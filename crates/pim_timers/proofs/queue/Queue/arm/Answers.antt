use Rattle.std.{proofs.Common.◌∙◌}
use Rattle.pim_timers.{specs.Armed.holds, proofs.{Armed.{now_armed, put_grows, put_held, put_kept, same_held}, Held.{after_ok, either_way}, Together.other}}
use Rattle.pim_timers.proofs.queue.Queue.arm.Goals as goal

pub returns-in-Some-clause-ok : goal.returns-in-Some-clause-ok
returns-in-Some-clause-ok c =
    after_ok c.push.result c.push.ensures.ok (λ put. now_armed (holds c.push.new.self) c.args.timer c.args.to c.in-Some.after
    c.in-Some.is (put_held (holds c.args.self.now) (holds c.push.new.self) (c.in-Some.after, c.args.timer) put))

pub returns-in-Some-clause-others : goal.returns-in-Some-clause-others
returns-in-Some-clause-others c = λ d apart.
    either_way c.push.result c.push.ensures.ok c.push.ensures.err
    (λ put. put_kept (holds c.args.self.now) (holds c.push.new.self) (c.in-Some.after, c.args.timer) put d
    (other d.0 c.in-Some.after d.1 c.args.timer apart)) (λ kept. same_held c.push.new.self c.args.self.now kept d)

pub returns-in-Some-clause-grows : goal.returns-in-Some-clause-grows
returns-in-Some-clause-grows c = λ d is.
    either_way c.push.result c.push.ensures.ok c.push.ensures.err
    (λ put. put_grows (holds c.args.self.now) (holds c.push.new.self) (c.in-Some.after, c.args.timer) put d is)
    (λ kept. same_held c.push.new.self c.args.self.now kept d ∙ is)
