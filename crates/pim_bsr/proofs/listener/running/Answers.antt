use Rattle.std.{proofs.{Common.{List, ap, filter, rules, ◌∙◌}, lemmas.Fn.filter_same}}
use Rattle.pim_bsr.{specs.{Table.runs, declared.learned.Learned.Learned}}
use Rattle.pim_bsr.proofs.listener.running.Goals as goal

pub returns : goal.returns
returns c =
    filter_same _ (runs c.args.moment) _ (λ x b f' k. search rules) _ _ c.retain.ensures.filtered
    ∙ ap (λ (ls : List Learned). filter (runs c.args.moment) ls) c.in_ok-left.ensures.items
