use Rattle.std.{proofs.Common.◌≡◌, specs.List.list_any}
use Rattle.pim_model.{specs.{Neighbours.is_better_dr, Tables.rows_on}}
use Rattle.pim_neighbours.proofs.neighbours.Neighbours.is_dr.Given as goal

abbrev pub invariant-loop-key : goal.invariant-loop-key
invariant-loop-key l =
    list_any (is_better_dr l.by_priority l.own.priority l.own.address.bits) l.key-iterator
    ≡ list_any (is_better_dr l.by_priority l.own.priority l.own.address.bits) (rows_on l.fn.iface.number l.self)
