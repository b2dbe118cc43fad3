use Rattle.std.{proofs.Common.{◌≡◌, ◌==◌, drop}, specs.List.list_any}
use Rattle.pim_types.{specs.declared.config.InterfaceConfig.InterfaceConfig}
use Rattle.pim_anycast.proofs.configured.is_of_interface.Given as goal

abbrev pub invariant-loop-interface : goal.invariant-loop-interface
invariant-loop-interface l =
    let test = λ (c : InterfaceConfig). c.address.bits == l.address.bits in
    list_any test (drop l.interface-index l.interfaces) ≡ list_any test l.interfaces
