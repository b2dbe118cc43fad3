use Rattle.std.proofs.Common.{ap, ◌∷◌, ◌++◌, [], ℕ, ◌∙◌}
use Rattle.law_states.{specs.Placing.index_of}
use Rattle.pim_worlds.{proofs.Gathered.mapped_more}
use Rattle.pim_worlds.proofs.orders.indices.Goals as goal

pub loop-number-preserved : goal.loop-number-preserved
loop-number-preserved c =
    mapped_more (index_of c.args.order.now) c.loop-number.number c.loop-number.indices.items c.push.new.self.items
    c.loop-number.invariant
    (c.in_ok-push.ensures.items ∙ ap (λ (n : ℕ). c.loop-number.indices.items ++ n ∷ []) c.index_of.ensures)
