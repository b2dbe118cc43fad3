use Rattle.std.{proofs.{Common.arith, lemmas.{Grind.common_steps, List.Edits.map_over_more}}}
use Rattle.pim_filters.{specs.Members.with_end_lowered}
use Rattle.pim_filters.proofs.group_record.lower.Goals as goal

pub loop-member-preserved : goal.loop-member-preserved
loop-member-preserved c = grind (arith, common_steps, map_over_more (with_end_lowered c.args.sources.now c.args.end))
