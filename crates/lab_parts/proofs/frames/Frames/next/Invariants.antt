-- What comes next is what came next at the beginning.
use Rattle.std.{proofs.Common.{◌≡◌, length}}
use Rattle.lab_parts.{specs.Settling.next_delivery}
use Rattle.lab_parts.proofs.frames.Frames.next.Given as goal

abbrev pub invariant-loop-alloc : goal.invariant-loop-alloc
invariant-loop-alloc l =
    next_delivery l.stations l.self-inside.sent l.self-inside.waiting.items l.self-inside.begun.items
    ≡ next_delivery l.stations l.fn.self.sent l.fn.self.waiting l.fn.self.begun

abbrev pub decreases-loop-alloc : goal.decreases-loop-alloc
decreases-loop-alloc l = length l.self-inside.waiting.items
