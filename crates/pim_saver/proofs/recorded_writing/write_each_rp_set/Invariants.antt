use Rattle.std.{proofs.Common.{◌≡◌, ◌++◌, drop}, specs.List.{AllByRecursion, flat_map}}
use Rattle.pim_saver.{specs.{Fits.FitsRpSet, Records.rp_set_text}}
use Rattle.pim_saver.proofs.recorded_writing.write_each_rp_set.Given as goal

abbrev pub invariant-loop-set : goal.invariant-loop-set
invariant-loop-set l = record {
  told : l.out.items ++ flat_map rp_set_text (drop l.set-index l.sets) ≡ l.fn.out.items ++ flat_map rp_set_text l.sets;
  fits : AllByRecursion FitsRpSet (drop l.set-index l.sets) → AllByRecursion FitsRpSet l.sets;
}
