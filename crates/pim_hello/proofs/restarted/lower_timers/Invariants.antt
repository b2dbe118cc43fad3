use Rattle.std.{proofs.Common.{◌≡◌, drop}}
use Rattle.law_settled.{specs.Rows.all_changed}
use Rattle.pim_store.{specs.PimTables.lowered_join_timer}
use Rattle.pim_hello.proofs.restarted.lower_timers.Given as goal

abbrev pub invariant-loop-key : goal.invariant-loop-key
invariant-loop-key l = record {
  timers : all_changed (lowered_join_timer l.end) l.world.join_timers (drop l.key-index l.keys)
      ≡ all_changed (lowered_join_timer l.end) l.fn.world.join_timers l.keys;
  rest : l.world ≡ record l.fn.world { join_timers = l.world.join_timers };
}
