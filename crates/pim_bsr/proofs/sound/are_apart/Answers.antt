use Rattle.std.{proofs.{Common.arith, lemmas.Grind.common_steps}}
use Rattle.pim_types.{specs.declared.config.RpRange.RpRange}
use Rattle.pim_bsr.{specs.{Sound.are_apart, Table.has_range}, proofs.Apart.apart-drop}
use Rattle.pim_bsr.proofs.sound.are_apart.Goals as goal

-- what an index past the end would read
blank : RpRange
blank = record { prefix = record { address = record { bits = 0 }; length = 0 }; rp = record { bits = 0 } }

pub returns-then-has_range : goal.returns-then-has_range
unfolding blank has_range
returns-then-has_range c =
    let e = apart-drop c.args.ranges.now c.loop-place.place blank c.loop-place-test.true in
    grind (arith, common_steps, e)

pub loop-place-preserved : goal.loop-place-preserved
unfolding blank has_range
loop-place-preserved c =
    let e = apart-drop c.args.ranges.now c.loop-place.place blank c.loop-place-test.true in
    grind (arith, common_steps, e)

pub returns : goal.returns
unfolding are_apart
returns c = grind (arith, common_steps)
