use Rattle.std.{proofs.Common.◌≡◌}
use Rattle.pim_model.{specs.Tables.rows_on}
use Rattle.pim_neighbours.{specs.Delays.announced_among}
use Rattle.pim_neighbours.proofs.neighbours.Neighbours.announced_delays.Given as goal

abbrev pub invariant-loop-row : goal.invariant-loop-row
invariant-loop-row l =
    announced_among l.propagation_delay l.override_interval l.row-iterator
    ≡ announced_among l.own.propagation_delay l.own.override_interval (rows_on l.fn.iface.number l.self)
