use Rattle.std.{proofs.Common.{◌≡◌, ◌++◌}, specs.List.{AllByRecursion, flat_map}}
use Rattle.pim_saved.{specs.{Fits.{FitsEntry, FitsJoinTimer}, Text.{entry_text, join_timer_text}}}
use Rattle.pim_worlds.proofs.written.write_each_join_timer.Given as goal

abbrev pub invariant-loop-key : goal.invariant-loop-key
invariant-loop-key l = record {
  told : l.out.items ++ flat_map (entry_text join_timer_text) l.key-iterator ≡ l.fn.out.items ++ flat_map (entry_text join_timer_text) l.fn.rows;
  fits : AllByRecursion (FitsEntry FitsJoinTimer) l.key-iterator → AllByRecursion (FitsEntry FitsJoinTimer) l.fn.rows;
}
