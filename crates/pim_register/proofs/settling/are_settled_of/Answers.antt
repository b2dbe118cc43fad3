use Rattle.std.{proofs.Common.{◌≡◌, List, fold, map, subst, ◌∙◌}}
use Rattle.pim_model.{specs.Registers.settle_register}
use Rattle.pim_views.{specs.{After.{opened_in, opening_in}, declared.after.SourceAfter.SourceAfter}}
use Rattle.pim_register.{specs.Steps.source_keys, proofs.Steps.alone_settled}
use Rattle.pim_register.proofs.settling.are_settled_of.Goals as goal

pub returns : goal.returns
returns c e =
    let s = c.args.world.now in
    let x = c.args.after.now in
    alone_settled s (opening_in x)
    ∙ subst (λ (xs : List SourceAfter). fold settle_register s (source_keys x.star.group.bits (map opened_in xs)) ≡ s)
    c.as_slice.ensures (c.are_settled_among.ensures e)
