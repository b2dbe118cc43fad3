use Rattle.std.{proofs.Common.{◌≡◌, ◌++◌}}
use Rattle.pim_upstream.{specs.Hearing.{heard_of_timers, timers_of}}
use Rattle.pim_upstream.proofs.overheard.hear_timers.Given as goal

abbrev pub invariant-loop-key : goal.invariant-loop-key
invariant-loop-key l =
    l.moves.items ++ heard_of_timers l.world l.hop l.end l.fn.group l.key-iterator
    ≡ l.fn.moves.items ++ heard_of_timers l.world l.hop l.end l.fn.group (timers_of l.world l.fn.group.bits)
