use Rattle.std.{proofs.{Common.arith, lemmas.Grind.common_steps}}
use Rattle.pim_ip.{specs.declared.addr.Addr.Addr}
use Rattle.pim_model.{specs.Limits.are_once}
use Rattle.pim_anycast.{proofs.Once.are_once-drop}
use Rattle.pim_anycast.proofs.set.are_once.Goals as goal

-- what an index past the end would read
blank : Addr
blank = record { bits = 0 }

pub returns-then-is_listed : goal.returns-then-is_listed
unfolding blank
returns-then-is_listed c = let e = are_once-drop c.args.addresses.now c.loop-number.number blank
    c.loop-number-test.true in
    grind (arith, common_steps, e)

pub loop-number-preserved : goal.loop-number-preserved
unfolding blank
loop-number-preserved c = let e = are_once-drop c.args.addresses.now c.loop-number.number blank
    c.loop-number-test.true in
    grind (arith, common_steps, e)

pub returns : goal.returns
unfolding are_once
returns c = grind (arith, common_steps)
