use Rattle.std.{proofs.Common.◌≡◌}
use Rattle.pim_bsr.{specs.Table.{message_id, with_ranges}}
use Rattle.pim_bsr.proofs.table.Table.learn.Given as goal

abbrev pub invariant-loop-range : goal.invariant-loop-range
invariant-loop-range l =
    with_ranges l.arrival.moment (message_id l.arrival.bsr.bits l.arrival.tag) l.arrival.hash_length l.self l.range-iterator
    ≡ with_ranges l.arrival.moment (message_id l.arrival.bsr.bits l.arrival.tag) l.arrival.hash_length l.fn.self l.fn.ranges
