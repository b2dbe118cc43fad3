use Rattle.std.{proofs.{Common.{List, ap, filter, rules, ◌∙◌}, lemmas.Fn.filter_same}}
use Rattle.pim_bsr.{specs.{Table.{is_tagged, message_id}, declared.learned.Part.Part}}
use Rattle.pim_bsr.proofs.table.tagged.Goals as goal

pub returns : goal.returns
returns c =
    filter_same _ (is_tagged c.args.prefix (message_id c.args.arrival.bsr.bits c.args.arrival.tag)) _ (λ x b f' k. search rules) _ _ c.retain.ensures.filtered
    ∙ ap (λ (xs : List Part). filter (is_tagged c.args.prefix (message_id c.args.arrival.bsr.bits c.args.arrival.tag)) xs) c.in_ok-found.ensures.items
