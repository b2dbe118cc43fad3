use Rattle.std.{proofs.Common.Some}
use Rattle.igmp_membership.{proofs.Writes.lists_after}
use Rattle.igmp_membership.proofs.index.Index.list.Goals as goal

pub returns-clause-ok : goal.returns-clause-ok
returns-clause-ok c =
    lists_after _ _ c.args.iface.number c.args.group c.args.source (Some c.args.is_running) _ _ c.get-listed.ensures.sides
    c.with.ensures _ c.write.ensures.ok
