use Rattle.std.{proofs.Common.{not, refl, ◌&&◌, ◌||◌, ◌∙◌}}
use Rattle.pim_fanout.{proofs.SameSets.told_by_masks}
use Rattle.pim_fanout.proofs.compare.is_same_set.Goals as goal

pub returns : goal.returns
returns c =
    let before = c.without_tunnel-before.ensures in
    let after = c.without_tunnel-after.ensures in
    told_by_masks c.args.before c.args.after c.union.result
    (λ i. c.union.ensures.interfaces i
    ∙ ((λ j. c.minus.ensures.interfaces i j || c.minus-2.ensures.interfaces i j)
    ∙ (λ j. (before.interfaces i j && not (after.interfaces i j))
    || (after.interfaces i j && not (before.interfaces i j)))))
    c.is_empty.result
    (rw (c.union.ensures.tunnel, c.minus.ensures.tunnel, c.minus-2.ensures.tunnel, before.tunnel, after.tunnel) refl)
    c.is_empty.ensures
