use Rattle.std.{proofs.{Common.{not, rules}, lemmas.Fn.filter_same}}
use Rattle.pim_candidate.{specs.{RpSet.is_mapping, declared.rp_set.Held.Held}}
use Rattle.pim_candidate.proofs.rp_set.drop_rp.Goals as goal

pub returns-clause-value : goal.returns-clause-value
returns-clause-value c =
    filter_same _ (λ (old : Held). not (is_mapping c.args.one old)) _ (λ x b f' k. search rules) _ _ c.retain.ensures.filtered
