use Rattle.std.{proofs.Common.sym}
use Rattle.pim_querier.{proofs.Room.room_for_named}
use Rattle.pim_querier.proofs.named.is_full.Goals as goal

pub returns-then-not-may_be_full : goal.returns-then-not-may_be_full
returns-then-not-may_be_full c =
    sym (room_for_named c.args.world.now c.args.iface.number c.args.report.now (c.may_be_full.ensures c.if-not-may_be_full.true))
