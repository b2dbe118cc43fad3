use Rattle.std.{proofs.Common.{◌<◌, arith}, specs.BinaryHeap.{heap_capacity, heap_len}}
use Rattle.pim_timers.{specs.Armed.holds, proofs.Held.{longer, pushed, pushed_aside, surely}}
use Rattle.pim_timers.proofs.queue.Queue.push_in_room.Goals as goal

has_room : (c : goal.After-push) → heap_len c.self.inside.heap < heap_capacity c.self.inside.heap
has_room c = let room = rw (← c.self.view_is) at c.requires in omega (arith, room)

pub returns-clause-held : goal.returns-clause-held
unfolding holds
returns-clause-held c = rw (← c.self.view_is)
    (pushed _ _ _ (surely c.push.result (c.push.ensures.succeeds (has_room c)) c.push.ensures.permutation))

pub returns-clause-room : goal.returns-clause-room
returns-clause-room c = rw (← c.self.view_is)
    (let len = surely c.push.result (c.push.ensures.succeeds (has_room c)) c.push.ensures.len in
    omega (arith, len, c.push.ensures.capacity))

pub returns-clause-len : goal.returns-clause-len
returns-clause-len c = rw (← c.self.view_is)
    (longer _ _ _ (surely c.push.result (c.push.ensures.succeeds (has_room c)) c.push.ensures.permutation))

pub returns-clause-aside : goal.returns-clause-aside
returns-clause-aside c = λ p aside. rw (← c.self.view_is)
    (pushed_aside _ _ _ p (surely c.push.result (c.push.ensures.succeeds (has_room c)) c.push.ensures.permutation) aside)
