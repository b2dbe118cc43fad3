use Rattle.std.{proofs.Common.{◌≡◌, ◌&&◌, ◌++◌, filter, is_some, map}}
use Rattle.pim_types.{specs.Keys.{group_in, is_on, star_key}}
use Rattle.law_events.{specs.Adjacent.receiver_stars}
use Rattle.pim_hello.proofs.served.put_stars.Given as goal

abbrev pub invariant-loop-key : goal.invariant-loop-key
invariant-loop-key l =
    l.keys.items ++ map (λ e. star_key 0 (group_in e.0)) (filter (λ e. is_on l.iface.number e.0 && is_some (e.1).end) l.key-iterator)
    ≡ l.fn.keys.items ++ receiver_stars l.world l.iface.number
