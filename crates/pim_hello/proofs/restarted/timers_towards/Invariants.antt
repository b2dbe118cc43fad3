use Rattle.std.{proofs.Common.{◌≡◌, filter, take}}
use Rattle.pim_hello.{specs.Towards.is_towards}
use Rattle.pim_hello.proofs.restarted.timers_towards.Given as goal

abbrev pub invariant-loop-key : goal.invariant-loop-key
invariant-loop-key l = l.keys.items ≡ filter (is_towards l.world l.neighbour) (take l.key-index l.key-items)
