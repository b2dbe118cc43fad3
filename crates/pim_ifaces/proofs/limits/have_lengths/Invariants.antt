use Rattle.std.{proofs.Common.{◌≡◌, drop}, specs.List.list_all}
use Rattle.pim_types.{specs.declared.config.InterfaceConfig.InterfaceConfig}
use Rattle.pim_model.{specs.Limits.is_between}
use Rattle.pim_ifaces.proofs.limits.have_lengths.Given as goal

abbrev pub invariant-loop-interface : goal.invariant-loop-interface
invariant-loop-interface l =
    let test = λ (i : InterfaceConfig). is_between 1 31 i.length in
    list_all test (drop l.interface-index l.configured) ≡ list_all test l.configured
