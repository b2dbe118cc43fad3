use Rattle.std.{proofs.Common.{length, ap, arith, ◌∙◌}}
use Rattle.pim_timers.{specs.Armed.holds, proofs.{Arming.{moment_armed, moments_armed, moments_owed}, Entries.len_contents}}
use Rattle.std.specs.FinMap as map
use Rattle.pim_timers.proofs.moments.MomentsSchedule.arm_all.Goals as goal

pub loop-timer-init : goal.loop-timer-init
loop-timer-init c =
    let is = c.into_iter-timer-iterator.ensures.into_iter_gives ∙ c.iter-timer-items.ensures.rest in
    let len = len_contents c.self.inside.moments.entries c.len.ensures.ordered in
    let same = ap (λ es. length es) is in
    rw (← c.self.view_is) record {
      owes = moments_owed c.self.inside.moments.entries c.into_iter-timer-iterator.result (holds c.args.queue.now) is;
      room = let room = rw (← c.self.view_is) at c.requires in omega (arith, len, same, room);
      few = omega (arith, len, same);
    }

pub push_in_room-requires : goal.push_in_room-requires
push_in_room-requires c =
    let same = ap (λ es. length es) c.in-Some.ensures.steps in
    omega (arith, same, c.loop-timer.invariant.room)

pub loop-timer-preserved : goal.loop-timer-preserved
loop-timer-preserved c =
    let same = ap (λ es. length es) c.in-Some.ensures.steps in
    record {
      owes = moment_armed (map.get c.args.self.now) (c.in-Some.timer.now, c.in-Some.moment.now) c.next.new.self
          c.loop-timer.timer-iterator (holds c.loop-timer.queue) (holds c.push_in_room.new.self) c.in-Some.ensures.steps
          c.push_in_room.ensures.held c.loop-timer.invariant.owes;
      room = omega (arith, same, c.loop-timer.invariant.room, c.push_in_room.ensures.room);
      few = omega (arith, same, c.loop-timer.invariant.few, c.push_in_room.ensures.len);
    }

pub returns-clause-armed : goal.returns-clause-armed
returns-clause-armed c =
    moments_armed (map.get c.args.self.now) c.loop-timer.timer-iterator (holds c.loop-timer.queue)
    c.in-None.ensures.steps.0 c.loop-timer.invariant.owes
