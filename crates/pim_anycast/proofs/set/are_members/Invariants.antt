use Rattle.std.{proofs.Common.{◌≡◌, drop}, specs.List.list_all}
use Rattle.pim_anycast.{specs.Sets.is_member}
use Rattle.pim_anycast.proofs.set.are_members.Given as goal

abbrev pub invariant-loop-address : goal.invariant-loop-address
invariant-loop-address g l =
    let test = is_member (g.A.OwnAddresses.configured l.own) in
    list_all test (drop l.address-index l.addresses) ≡ list_all test l.addresses
