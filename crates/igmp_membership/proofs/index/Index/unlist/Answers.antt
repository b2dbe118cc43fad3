use Rattle.std.{proofs.Common.{None, refl}}
use Rattle.igmp_membership.{proofs.Writes.unlisted_after}
use Rattle.igmp_membership.proofs.index.Index.unlist.Goals as goal

pub returns : goal.returns
returns c =
    unlisted_after _ _ c.args.iface.number c.args.group c.args.source None _ _ c.get-listed.ensures.sides
    c.without.ensures _ c.write.ensures.ok c.write.ensures.err c.write.ensures.absent refl
