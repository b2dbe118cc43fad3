use Rattle.std.{proofs.{Common.arith, lemmas.{Grind.common_steps, List.Edits.map_over_more}}}
use Rattle.law_states.{specs.Placing.{number_at, leaving_on}}
use Rattle.pim_reloader.proofs.numbering.leave_by_numbers.Goals as goal

pub loop-emission-preserved : goal.loop-emission-preserved
loop-emission-preserved c = grind (arith, common_steps, map_over_more (leaving_on (number_at c.args.numbers.now)))
