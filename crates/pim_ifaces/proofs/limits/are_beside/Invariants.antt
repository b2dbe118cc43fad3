use Rattle.std.{proofs.Common.{◌≡◌, drop}, specs.List.list_all}
use Rattle.pim_model.{specs.Limits.is_apart}
use Rattle.pim_ifaces.proofs.limits.are_beside.Given as goal

abbrev pub invariant-loop-address : goal.invariant-loop-address
invariant-loop-address l =
    list_all (is_apart l.configured) (drop l.address-index l.addresses) ≡ list_all (is_apart l.configured) l.addresses
