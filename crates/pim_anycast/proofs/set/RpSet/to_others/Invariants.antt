use Rattle.std.{proofs.Common.{◌≡◌, ◌++◌, drop, map}}
use Rattle.pim_anycast.{specs.Sets.sent_to}
use Rattle.pim_anycast.proofs.set.RpSet.to_others.Given as goal

abbrev pub invariant-loop-other : goal.invariant-loop-other
invariant-loop-other l =
    l.sent.items ++ map (sent_to l.self l.time_to_live l.message) (drop l.other-index l.others)
    ≡ map (sent_to l.self l.time_to_live l.message) l.others
