use Rattle.std.{proofs.Common.{◌≡◌, ◌==◌, drop}, specs.List.list_any}
use Rattle.pim_ip.{specs.declared.addr.Addr.Addr}
use Rattle.pim_msdp.proofs.own.is_other.Given as goal

abbrev pub invariant-loop-other : goal.invariant-loop-other
invariant-loop-other l =
    let test = λ (other : Addr). other.bits == l.address.bits in
    list_any test (drop l.other-index l.set.others) ≡ list_any test l.set.others
