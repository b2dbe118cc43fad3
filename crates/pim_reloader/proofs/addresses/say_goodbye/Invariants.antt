use Rattle.std.{proofs.Common.{◌≡◌, ◌++◌, filter, map}, specs.List.range_with_len}
use Rattle.law_states.{specs.Reloading.{goodbye, leaves_address}}
use Rattle.pim_reloader.proofs.addresses.say_goodbye.Given as goal

abbrev pub invariant-loop-number : goal.invariant-loop-number
invariant-loop-number l =
    l.sent.items
    ≡ l.fn.sent.items ++ map (goodbye l.world) (filter (leaves_address l.world l.next.configured) (range_with_len 0 l.number))
