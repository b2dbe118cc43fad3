-- The frame begun, else the first that waits.
use Rattle.std.{proofs.{Common.{rules, arith, ◌≡◌, ◌<◌, ◌∙◌, ◌∷◌, sym}, lemmas.Bool.Decides.nat_tests}}
use Rattle.lab_parts.{proofs.Settling.{next-none, next-popped, next-waiting, no_items}}
use Rattle.lab_parts.proofs.frames.Frames.next.Goals as goal

pub returns-in_default : goal.returns-in_default
returns-in_default c =
    let begun = c.loop-alloc.self-inside.begun in
    let waiting = c.loop-alloc.self-inside.waiting in
    let empty : begun.len ≡ 0 = grind (arith, nat_tests) in
    sym (next-none c.args.stations.now c.loop-alloc.self-inside.sent waiting.items c.pop_front.new.self.items begun.items
    (no_items begun.items begun.len begun.ok.0 empty)
    (no_items waiting.items waiting.len waiting.ok.0 c.in_default.ensures.cases.0)
    (no_items c.pop_front.new.self.items c.pop_front.new.self.len c.pop_front.new.self.ok.0 c.in_default.ensures.cases.1))
    ∙ c.loop-alloc.invariant

pub loop-alloc-preserved : goal.loop-alloc-preserved
loop-alloc-preserved c =
    let begun = c.loop-alloc.self-inside.begun in
    let empty : begun.len ≡ 0 = grind (arith, nat_tests) in
    let first : c.loop-alloc.self-inside.waiting.items ≡ c.in-Some.frame ∷ c.pop_front.new.self.items = search rules in
    sym (next-waiting c.args.stations.now c.loop-alloc.self-inside.sent c.loop-alloc.self-inside.waiting.items
    c.pop_front.new.self.items begun.items c.in_ok-self-inside.field-0.items c.in-Some.frame
    (no_items begun.items begun.len begun.ok.0 empty) first c.in_ok-self-inside.ensures)
    ∙ c.loop-alloc.invariant

pub returns : goal.returns
returns c =
    let begun = c.loop-alloc.self-inside.begun in
    let some : 0 < begun.len = grind (arith, nat_tests) in
    sym (next-popped c.args.stations.now c.loop-alloc.self-inside.sent c.loop-alloc.self-inside.waiting.items begun.items
    c.pop_front-2.new.self.items c.pop_front-2.result begun.len c.pop_front-2.new.self.len
    c.pop_front-2.ensures.items some c.pop_front-2.ensures.cases)
    ∙ c.loop-alloc.invariant
