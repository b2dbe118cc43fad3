use Rattle.pim_timers.{specs.Armed.holds, proofs.Armed.{now_armed, put_held}}
use Rattle.pim_tables.proofs.ended.push_end.Goals as goal

pub returns-in-Some-clause-armed : goal.returns-in-Some-clause-armed
returns-in-Some-clause-armed c =
    now_armed (holds c.push_in_room.new.self) c.args.timer c.args.end c.in-Some.moment c.in-Some.is
    (put_held (holds c.args.queue.now) (holds c.push_in_room.new.self) (c.in-Some.moment, c.args.timer)
    c.push_in_room.ensures.held)
