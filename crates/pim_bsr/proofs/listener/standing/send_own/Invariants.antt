use Rattle.std.{proofs.Common.{◌≡◌, ◌++◌, filter, map}, specs.List.range_with_len}
use Rattle.pim_bsr.{specs.Hearing.passed_on}
use Rattle.pim_bsr.proofs.listener.standing.send_own.Given as goal

abbrev pub invariant-loop-number : goal.invariant-loop-number
invariant-loop-number g l =
    l.out.items
    ≡ l.fn.out.items ++ map (passed_on (g.S.Surroundings.around l.around) l.bytes)
    (filter (g.S.Surroundings.around l.around).linked (range_with_len 0 l.number))
