use Rattle.std.{proofs.{Common.arith, lemmas.{Grind.common_steps, List.Edits.map_over_more}}}
use Rattle.law_states.{specs.Placing.{index_of, leaving_on}}
use Rattle.pim_reloader.proofs.numbering.leave_by_indices.Goals as goal

pub loop-emission-preserved : goal.loop-emission-preserved
loop-emission-preserved c = grind (arith, common_steps, map_over_more (leaving_on (index_of c.args.numbers.now)))
