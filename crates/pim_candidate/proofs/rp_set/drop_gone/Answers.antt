use Rattle.std.{proofs.{Common.rules, lemmas.Fn.filter_same}}
use Rattle.pim_candidate.{specs.{RpSet.stays_gone}}
use Rattle.pim_candidate.proofs.rp_set.drop_gone.Goals as goal

pub returns : goal.returns
returns c = filter_same _ (stays_gone c.args.now c.args.held.now) _ (λ x b f' k. search rules) _ _ c.retain.ensures.filtered
