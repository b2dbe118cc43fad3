use Rattle.std.{proofs.Common.{◌≡◌, ap, arith, ◌∙◌, ◌||◌}, specs.{BinaryHeap.heap_items, List.Sorted.IsPermutation, Prelude.◌∷◌}}
use Rattle.pim_timers.{specs.{Armed.holds, Dues.{Due, same_due}}, proofs.Held.{Entry, among, first_popped, popped, popped_one, shorter, upper}}
use Rattle.pim_timers.proofs.queue.Queue.take_first.Goals as goal

taken : (c : goal.After-pop) → (x : Entry) × (x.0 ≡ c.args.first)
    × IsPermutation (heap_items c.self.inside.heap) (x ∷ heap_items c.pop.new.self)
unfolding holds
taken c =
    first_popped (heap_items c.self.inside.heap) (heap_items c.pop.new.self) c.args.first c.pop.result (rw (← c.self.view_is) at c.requires)
    (λ some. c.pop.ensures.variant.1 (omega (arith, some, c.self.inside.heap.data.ok.0))) c.pop.ensures.top c.pop.ensures.permutation
    (upper _ _ c.pop.result c.self.invariant c.pop.ensures.heap_order)

pub returns-clause-held : goal.returns-clause-held
unfolding holds
returns-clause-held c d = rw (← c.self.view_is)
    (let t = taken c in popped _ _ t.0 t.2 d ∙ ap (λ (e : Due). same_due d e || among (heap_items c.pop.new.self) d) t.1)

pub returns-clause-fewer : goal.returns-clause-fewer
returns-clause-fewer c p is = rw (← c.self.view_is)
    (let t = taken c in popped_one _ _ t.0 p t.2 (ap p t.1 ∙ is))

pub returns-clause-len : goal.returns-clause-len
returns-clause-len c = rw (← c.self.view_is) (let t = taken c in shorter _ _ t.0 t.2)

pub returns-clause-room : goal.returns-clause-room
returns-clause-room c =
    let t = taken c in
    let less = shorter _ _ t.0 t.2 in
    omega (arith, less, c.pop.ensures.capacity, c.self.inside.heap.data.ok.0, c.self.inside.heap.data.ok.1, c.pop.new.self.data.ok.0)
