use Rattle.std.{proofs.Common.{◌≡◌, drop}, specs.List.list_all}
use Rattle.pim_ip.{specs.Ipv4.is_unicast}
use Rattle.pim_types.{specs.declared.config.InterfaceConfig.InterfaceConfig}
use Rattle.pim_ifaces.proofs.limits.are_unicast.Given as goal

abbrev pub invariant-loop-interface : goal.invariant-loop-interface
invariant-loop-interface l =
    let test = λ (i : InterfaceConfig). is_unicast i.address.bits in
    list_all test (drop l.interface-index l.configured) ≡ list_all test l.configured
