use Rattle.std.{proofs.Common.{◌≡◌, drop, length}, specs.List.list_all}
use Rattle.pim_ifaces.{specs.Interfaces.is_up_key}
use Rattle.pim_worlds.{specs.Refilled.refilled}
use Rattle.pim_worlds.proofs.interfaces.put_ups.Given as goal

abbrev pub invariant-loop-row : goal.invariant-loop-row
invariant-loop-row l = record {
  same : l.interfaces.configured ≡ l.fn.interfaces.configured;
  test : list_all (λ e. is_up_key (length l.fn.interfaces.configured.interfaces) e.0) (drop l.row-index l.rows)
      ≡ list_all (λ e. is_up_key (length l.fn.interfaces.configured.interfaces) e.0) l.rows;
  rest : record l.interfaces { rows = refilled l.interfaces.rows (drop l.row-index l.rows) }
      ≡ record l.fn.interfaces { rows = refilled l.fn.interfaces.rows l.rows };
}
