use Rattle.std.{proofs.{Common.{not, rules}, lemmas.Fn.filter_same}}
use Rattle.pim_bsr.{specs.{Table.is_part_of, declared.learned.Part.Part}}
use Rattle.pim_bsr.proofs.table.drop_parts.Goals as goal

pub returns : goal.returns
returns c = filter_same _ (λ (q : Part). not (is_part_of c.args.prefix q)) _ (λ x b f' k. search rules) _ _ c.retain.ensures.filtered
