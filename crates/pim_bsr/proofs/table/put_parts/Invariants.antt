use Rattle.std.{proofs.Common.{◌≡◌, fold, map}}
use Rattle.pim_bsr.{specs.Table.{message_id, part_of, with_part}}
use Rattle.pim_bsr.proofs.table.put_parts.Given as goal

abbrev pub invariant-loop-rp : goal.invariant-loop-rp
invariant-loop-rp l =
    fold with_part l.parts.items (map (part_of l.arrival.moment (message_id l.arrival.bsr.bits l.arrival.tag) l.prefix) l.rp-iterator)
    ≡ fold with_part l.fn.parts.items (map (part_of l.arrival.moment (message_id l.arrival.bsr.bits l.arrival.tag) l.prefix) l.fn.rps)
