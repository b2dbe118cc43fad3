use Rattle.std.{proofs.{Common.arith, lemmas.{Grind.common_steps, List.Edits.map_over_more}}}
use Rattle.pim_bsr.{specs.Table.with_mask}
use Rattle.pim_bsr.proofs.table.mask_rps.Goals as goal

pub loop-learned-preserved : goal.loop-learned-preserved
loop-learned-preserved c = grind (arith, common_steps, map_over_more (with_mask c.args.hash_length))
