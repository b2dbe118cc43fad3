use Rattle.std.{proofs.Common.{◌≡◌, ◌++◌, drop, filter, map}}
use Rattle.pim_bsr.{specs.Table.{has_holdtime, learned_of}}
use Rattle.pim_bsr.proofs.table.add_rps.Given as goal

abbrev pub invariant-loop-part : goal.invariant-loop-part
invariant-loop-part l =
    l.rps.items ++ map (learned_of l.arrival.moment l.arrival.hash_length) (filter has_holdtime (drop l.part-index l.parts))
    ≡ l.fn.rps.items ++ map (learned_of l.arrival.moment l.arrival.hash_length) (filter has_holdtime l.parts)
