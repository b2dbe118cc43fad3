use Rattle.std.{proofs.{Common.{arith, refl, sym}, lemmas.Bool.true≢false}}
use Rattle.pim_timers.{specs.Armed.holds, proofs.Held.{none_held, some_first}}
use Rattle.pim_timers.proofs.queue.Queue.first.Goals as goal

pub returns-in-Some : goal.returns-in-Some
unfolding holds
returns-in-Some c = rw (← c.self.view_is)
    (some_first c.in-Some.field-0.now c.self.inside.heap.data.items (omega (arith, c.self.inside.heap.data.ok.0, c.in-Some.ensures.variant.0 refl)) c.in-Some.ensures.lookup (c.in-Some.ensures.greatest c.self.invariant))

pub returns-in-None : goal.returns-in-None
unfolding holds
returns-in-None c = rw (← c.self.view_is)
    (none_held c.self.inside.heap.data.items (λ some. true≢false (sym (c.in-None.ensures.variant.1 (omega (arith, some, c.self.inside.heap.data.ok.0))))))
