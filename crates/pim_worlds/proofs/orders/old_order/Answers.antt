use Rattle.std.{proofs.{Common.{List, ap, arith, filter, ◌++◌, ◌∙◌, ℕ, length}, lemmas.Grind.common_steps}}
use Rattle.pim_model.{specs.Tables.below}
use Rattle.law_states.{specs.Placing.{is_kept, is_left_out, old_order}}
use Rattle.pim_worlds.proofs.orders.old_order.Goals as goal

pub returns : goal.returns
unfolding old_order
returns c =
    let m = c.args.places.now in
    c.in_ok-push_where-2.ensures (is_left_out m) (λ i b told. grind (arith, common_steps))
    ∙ ap (λ (ns : List ℕ). ns ++ filter (is_left_out m) (below (length m)))
    (c.in_ok-push_where.ensures (is_kept m) (λ i b told. grind (arith, common_steps))
    ∙ ap (λ (ns : List ℕ). ns ++ filter (is_kept m) (below (length m))) c.new-order.ensures.items)
