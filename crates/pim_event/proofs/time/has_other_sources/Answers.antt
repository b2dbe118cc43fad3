use Rattle.std.{proofs.Common.rules}
use Rattle.pim_event.{proofs.SourceEnds.others_by_walk}
use Rattle.pim_event.proofs.time.has_other_sources.Goals as goal

pub loop-key-init : goal.loop-key-init
loop-key-init c =
    others_by_walk c.args.world.now c.args.iface.number c.args.name.group.bits c.args.name.source.bits _ (search rules)
