use Rattle.std.{proofs.{Common.{◌==◌, ◌∷◌, ◌++◌, [], List, ap, not, rules, ◌∙◌}, lemmas.Fn.filter_same}}
use Rattle.pim_bsr.{specs.declared.learned.Part.Part}
use Rattle.pim_bsr.proofs.table.put_part.Goals as goal

pub returns : goal.returns
returns c =
    c.in_ok-push.ensures.items
    ∙ ap (λ (xs : List Part). xs ++ c.args.part ∷ [])
    (filter_same _ (λ (old : Part). not (old.rp.address.bits == c.args.part.rp.address.bits)) _ (λ x b f' k. search rules) _ _ c.retain.ensures.filtered)
