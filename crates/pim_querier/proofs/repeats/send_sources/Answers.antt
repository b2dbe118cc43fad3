use Rattle.std.{proofs.Common.ap}
use Rattle.pim_state.{specs.Lending.with_membership}
use Rattle.pim_querier.{proofs.{Queried.sources_repeated, Starting.then_ok}}
use Rattle.pim_querier.proofs.repeats.send_sources.Goals as goal

pub returns-clause-state : goal.returns-clause-state
returns-clause-state c =
    then_ok c.set_source_repeat.result
    (λ e. sources_repeated c.args.place.iface.number c.args.place.group.bits c.args.world.now c.send.new.world _
    c.next_sending-next.result c.in_ok-send.ensures.state c.next_sending-next.ensures
    (ap (with_membership c.send.new.world) (rw c.membership_mut.ensures.value at e)))
    c.set_source_repeat.ensures
