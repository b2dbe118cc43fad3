use Rattle.std.{proofs.Common.{◌∙◌, sym}}
use Rattle.pim_session.{proofs.Sourcing.{none_given, some_given}}
use Rattle.pim_session.proofs.sources.source_active.Goals as goal

pub returns-then-is_connected : goal.returns-then-is_connected
returns-then-is_connected c =
    none_given c.args.told.now.peer.bits c.args.told.now.rp.bits c.args.told.now.name.group.bits c.args.told.now.name.source.bits
    c.args.told.now.packet.now c.new.result.items c.args.router.now.standing (sym c.is_connected.ensures ∙ c.if-is_connected.true)
    c.new.ensures.items

pub returns : goal.returns
returns c =
    some_given c.args.told.now.peer.bits c.args.told.now.rp.bits c.args.told.now.name.group.bits c.args.told.now.name.source.bits
    c.args.told.now.packet.now c.in_ok-packet.packet.items c.args.router.now.standing (sym c.is_connected.ensures ∙ c.if-is_connected.false)
    c.in_ok-packet.ensures
