use Rattle.pim_downstream.{proofs.Judged.never_full}
use Rattle.pim_downstream.proofs.full.is_full.Goals as goal

pub returns-then-not-may_be_full : goal.returns-then-not-may_be_full
returns-then-not-may_be_full c =
    never_full c.args.world.now c.args.holdtime c.args.named.now.joined.items c.args.named.now.pruned.items
    c.may_be_full.result c.may_be_full.ensures c.if-not-may_be_full.true
