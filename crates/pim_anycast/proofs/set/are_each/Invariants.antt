use Rattle.std.{proofs.Common.{◌≡◌, drop}, specs.List.list_all}
use Rattle.pim_anycast.{specs.Sets.is_rp_set}
use Rattle.pim_anycast.proofs.set.are_each.Given as goal

abbrev pub invariant-loop-set : goal.invariant-loop-set
invariant-loop-set g l =
    let test = is_rp_set (g.A.OwnAddresses.configured l.own) l.sets in
    list_all test (drop l.set-index l.sets) ≡ list_all test l.sets
