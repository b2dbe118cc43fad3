use Rattle.std.{proofs.Common.◌∙◌}
use Rattle.pim_fanout.{proofs.Same.common_alike}
use Rattle.pim_fanout.proofs.compare.has_same_common.Goals as goal

pub returns : goal.returns
returns c =
    c.is_same_set.ensures
    ∙ common_alike c.args.before c.args.among c.args.after c.args.among_after c.intersection.result c.intersection-2.result
    c.without_tunnel-common.result c.without_tunnel-common_after.result c.intersection.ensures.interfaces
    c.intersection-2.ensures.interfaces c.without_tunnel-common.ensures.limit c.without_tunnel-common_after.ensures.limit
