use Rattle.std.{proofs.{Common.arith, lemmas.Grind.common_steps}}
use Rattle.pim_types.{specs.declared.config.InterfaceConfig.InterfaceConfig}
use Rattle.pim_model.{specs.Limits.are_apart}
use Rattle.pim_ifaces.{proofs.Apart.are_apart-drop}
use Rattle.pim_ifaces.proofs.limits.are_apart.Goals as goal

-- what an index past the end would read
blank : InterfaceConfig
blank = record { address = record { bits = 0 }; length = 0; priority = 0; propagation_delay = 0; override_interval = 0 }

pub returns-then-overlaps_any : goal.returns-then-overlaps_any
unfolding blank
returns-then-overlaps_any c = let e = are_apart-drop c.args.configured.now c.loop-number.number blank
    c.loop-number-test.true in
    grind (arith, common_steps, e)

pub loop-number-preserved : goal.loop-number-preserved
unfolding blank
loop-number-preserved c = let e = are_apart-drop c.args.configured.now c.loop-number.number blank
    c.loop-number-test.true in
    grind (arith, common_steps, e)

pub returns : goal.returns
unfolding are_apart
returns c = grind (arith, common_steps)
