use Rattle.std.{proofs.{Common.{arith, []}, lemmas.Grind.common_steps}}
use Rattle.pim_model.{specs.Limits.are_once}
use Rattle.pim_anycast.{specs.declared.set.RpSet.RpSet, proofs.Once.shared_once-drop}
use Rattle.pim_anycast.proofs.set.are_shared_once.Goals as goal

-- what an index past the end would read
blank : RpSet
blank = record { shared = record { bits = 0 }; own = record { bits = 0 }; others = [] }

pub returns-then-is_shared : goal.returns-then-is_shared
unfolding blank
returns-then-is_shared c = let e = shared_once-drop c.args.sets.now c.loop-number.number blank
    c.loop-number-test.true in
    grind (arith, common_steps, e)

pub loop-number-preserved : goal.loop-number-preserved
unfolding blank
loop-number-preserved c = let e = shared_once-drop c.args.sets.now c.loop-number.number blank
    c.loop-number-test.true in
    grind (arith, common_steps, e)

pub returns : goal.returns
unfolding are_once
returns c = grind (arith, common_steps)
