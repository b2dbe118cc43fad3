use Rattle.pim_rerouted.{proofs.Between.between_carries}
use Rattle.pim_rerouted.proofs.changed.between.Goals as goal

pub returns : goal.returns
returns c =
    between_carries c.same_heads-heads.result c.same_tails-tails.result c.args.first.now c.args.second.now
    c.same_heads-heads.ensures.same c.same_tails-tails.ensures.same
