use Rattle.std.{proofs.{Common.{arith, get_or}, lemmas.{Grind.common_steps, List.{drop_all, drop_more}}}}
use Rattle.pim_types.{specs.declared.config.InterfaceConfig.InterfaceConfig}
use Rattle.pim_ifaces.{proofs.Around.{next_own, no_more}}
use Rattle.pim_ifaces.proofs.configured.owns_of.Goals as goal

-- what an index past the end would read
blank : InterfaceConfig
blank = record { address = record { bits = 0 }; length = 0; priority = 0; propagation_delay = 0; override_interval = 0 }

pub loop-number-preserved : goal.loop-number-preserved
unfolding blank
loop-number-preserved c = (
  next_own c.loop-number.owns.items _ _ _ _ c.loop-number.number (get_or c.args.configured.now c.loop-number.number blank)
      c.push.ensures.items (drop_more c.args.configured.now c.loop-number.number blank c.loop-number-test.true)
      c.loop-number.invariant.0,
  grind (arith, common_steps),
)

pub returns : goal.returns
returns c =
    no_more c.loop-number.owns.items _ _ c.loop-number.number
    (drop_all c.loop-number.number c.args.configured.now c.loop-number-test.false) c.loop-number.invariant.0
