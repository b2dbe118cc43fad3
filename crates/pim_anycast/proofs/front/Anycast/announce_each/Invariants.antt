use Rattle.std.{proofs.Common.{◌≡◌, ◌++◌, drop}}
use Rattle.pim_anycast.{specs.Announced.{announced_all, keys_named}}
use Rattle.pim_anycast.proofs.front.Anycast.announce_each.Given as goal

abbrev pub invariant-loop-name : goal.invariant-loop-name
invariant-loop-name g l =
    l.sent.items ++ announced_all l.self (g.R.Rendezvous.ranges l.router) (keys_named (drop l.name-index l.names))
    ≡ announced_all l.self (g.R.Rendezvous.ranges l.router) (keys_named l.names)
