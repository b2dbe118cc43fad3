use Rattle.std.{proofs.Common.{◌≡◌, ◌++◌}, specs.List.{AllByRecursion, flat_map}}
use Rattle.pim_saved.{specs.{Fits.{FitsEntry, FitsSource}, Text.{entry_text, source_text}}}
use Rattle.pim_worlds.proofs.written.write_each_source.Given as goal

abbrev pub invariant-loop-key : goal.invariant-loop-key
invariant-loop-key l = record {
  told : l.out.items ++ flat_map (entry_text source_text) l.key-iterator ≡ l.fn.out.items ++ flat_map (entry_text source_text) l.fn.rows;
  fits : AllByRecursion (FitsEntry FitsSource) l.key-iterator → AllByRecursion (FitsEntry FitsSource) l.fn.rows;
}
