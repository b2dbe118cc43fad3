use Rattle.std.{proofs.{Common.rules, lemmas.Fn.filter_same}}
use Rattle.pim_candidate.{specs.RpSet.runs}
use Rattle.pim_candidate.proofs.rp_set.drop_expired.Goals as goal

pub returns-clause-value : goal.returns-clause-value
returns-clause-value c = filter_same _ (runs c.args.now) _ (λ x b f' k. search rules) _ _ c.retain.ensures.filtered
