use Rattle.std.{proofs.{Common.{List, ap, filter, ◌++◌, ◌∙◌, ℕ, arith}, lemmas.Grind.common_steps}}
use Rattle.pim_model.{specs.Tables.below}
use Rattle.law_states.{specs.Placing.{is_resubnetted, resubnetted}}
use Rattle.pim_reloader.proofs.places.resubnetted.Goals as goal

pub returns : goal.returns
unfolding resubnetted
returns c =
    c.in_ok-push_where.ensures (is_resubnetted c.args.old.now c.args.new.now) (λ i b told. grind (arith, common_steps))
    ∙ ap (λ (ns : List ℕ). ns ++ filter (is_resubnetted c.args.old.now c.args.new.now) (below c.args.count))
    c.new-places.ensures.items
