use Rattle.std.{proofs.Common.{◌≡◌, ◌++◌, filter, map}, specs.List.range_with_len}
use Rattle.pim_model.{specs.Messages.Message}
use Rattle.law_states.{specs.Reloading.tells_anew}
use Rattle.pim_reloader.proofs.hellos.tell.Given as goal

abbrev pub invariant-loop-number : goal.invariant-loop-number
invariant-loop-number l =
    l.out ≡ l.fn.out ++ map Message.Hello (filter (tells_anew l.world l.next.configured) (range_with_len 0 l.number))
