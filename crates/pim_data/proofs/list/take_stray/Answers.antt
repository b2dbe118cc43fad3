use Rattle.std.{proofs.Common.{refl, sym}}
use Rattle.pim_state.{proofs.Said.said_nothing}
use Rattle.pim_data.{proofs.Lists.stray_is}
use Rattle.pim_data.proofs.list.take_stray.Goals as goal

pub returns-then-not-is_on_list-clause-state : goal.returns-then-not-is_on_list-clause-state
returns-then-not-is_on_list-clause-state c =
    let is = stray_is c.args.world.now c.args.sight.now.star.group.bits c.args.sight.now.source.bits c.args.iface.number
    c.is_on_list.result c.args.sight.now.spt c.requires.sight.spt (c.is_on_list.ensures c.args.world.now c.requires.sight) in
    rw (is, c.if-not-is_on_list.true) refl

pub returns-then-not-is_on_list-clause-messages : goal.returns-then-not-is_on_list-clause-messages
returns-then-not-is_on_list-clause-messages c =
    let is = stray_is c.args.world.now c.args.sight.now.star.group.bits c.args.sight.now.source.bits c.args.iface.number
    c.is_on_list.result c.args.sight.now.spt c.requires.sight.spt (c.is_on_list.ensures c.args.world.now c.requires.sight) in
    rw (is, c.if-not-is_on_list.true) (sym (said_nothing c.args.turn.now))

pub returns-clause-state : goal.returns-clause-state
returns-clause-state c =
    let is = stray_is c.args.world.now c.args.sight.now.star.group.bits c.args.sight.now.source.bits c.args.iface.number
    c.is_on_list.result c.args.sight.now.spt c.requires.sight.spt (c.is_on_list.ensures c.args.world.now c.requires.sight) in
    rw (is, c.if-not-is_on_list.false) c.data_seen.ensures.state

pub returns-clause-messages : goal.returns-clause-messages
returns-clause-messages c =
    let is = stray_is c.args.world.now c.args.sight.now.star.group.bits c.args.sight.now.source.bits c.args.iface.number
    c.is_on_list.result c.args.sight.now.spt c.requires.sight.spt (c.is_on_list.ensures c.args.world.now c.requires.sight) in
    rw (is, c.if-not-is_on_list.false) c.data_seen.ensures.messages
