use Rattle.std.{proofs.{Common.{not, rules}, lemmas.Fn.filter_same}}
use Rattle.pim_bsr.{specs.{Table.has_prefix, declared.learned.Learned.Learned}}
use Rattle.pim_bsr.proofs.table.drop_rps.Goals as goal

pub returns : goal.returns
returns c = filter_same _ (λ (l : Learned). not (has_prefix c.args.prefix l)) _ (λ x b f' k. search rules) _ _ c.retain.ensures.filtered
