use Rattle.std.{proofs.Common.{◌≡◌, drop}, specs.List.list_all}
use Rattle.pim_model.{specs.Limits.is_delay_config}
use Rattle.pim_ifaces.proofs.limits.test_delays.Given as goal

abbrev pub invariant-loop-interface : goal.invariant-loop-interface
invariant-loop-interface l =
    list_all is_delay_config (drop l.interface-index l.configured) ≡ list_all is_delay_config l.configured
