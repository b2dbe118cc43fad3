use Rattle.std.{proofs.{Common.arith, lemmas.Grind.common_steps}}
use Rattle.pim_worlds.{proofs.Gathered.once-drop}
use Rattle.pim_worlds.proofs.orders.are_once.Goals as goal

pub returns-then-is_among : goal.returns-then-is_among
returns-then-is_among c = let e = once-drop c.args.numbers.now c.loop-index.index 0 c.loop-index-test.true in
    grind (arith, common_steps, e)

pub loop-index-preserved : goal.loop-index-preserved
loop-index-preserved c = let e = once-drop c.args.numbers.now c.loop-index.index 0 c.loop-index-test.true in
    grind (arith, common_steps, e)
