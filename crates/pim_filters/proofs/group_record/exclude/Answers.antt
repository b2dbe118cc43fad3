use Rattle.std.{proofs.{Common.arith, lemmas.{Grind.common_steps, List.Edits.map_over_more}}}
use Rattle.pim_filters.{specs.Members.without_end}
use Rattle.pim_filters.proofs.group_record.exclude.Goals as goal

pub loop-member-preserved : goal.loop-member-preserved
loop-member-preserved c = grind (arith, common_steps, map_over_more (without_end c.args.source.bits))
