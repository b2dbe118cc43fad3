use Rattle.std.{proofs.Common.{◌≡◌, ◌++◌, filter, map}}
use Rattle.pim_types.{specs.Keys.{group_in, is_on, source_in, source_key}}
use Rattle.law_events.{specs.Adjacent.receiver_sources}
use Rattle.pim_hello.proofs.served.put_sources.Given as goal

abbrev pub invariant-loop-key : goal.invariant-loop-key
invariant-loop-key l =
    l.keys.items ++ map (λ e. source_key 0 (group_in e.0) (source_in e.0)) (filter (λ e. is_on l.iface.number e.0) l.key-iterator)
    ≡ l.fn.keys.items ++ receiver_sources l.world l.iface.number
