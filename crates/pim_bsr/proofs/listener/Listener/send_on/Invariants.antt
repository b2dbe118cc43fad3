use Rattle.std.{proofs.Common.{◌≡◌, ◌++◌, filter, map}, specs.List.range_with_len}
use Rattle.pim_bsr.{specs.Hearing.{is_sent_on, passed_on}}
use Rattle.pim_bsr.proofs.listener.Listener.send_on.Given as goal

abbrev pub invariant-loop-number : goal.invariant-loop-number
invariant-loop-number g l =
    l.out.items
    ≡ l.fn.out.items ++ map (passed_on (g.S.Surroundings.around l.around) l.bytes)
    (filter (is_sent_on (g.S.Surroundings.around l.around) l.self l.iface.number l.bytes) (range_with_len 0 l.number))
