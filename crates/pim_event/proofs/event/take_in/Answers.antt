use Rattle.std.{proofs.{lemmas.Result.on_ok_weaker, Common.{ap}}}
use Rattle.pim_intake.{specs.Memory.is_frame}
use Rattle.pim_event.{proofs.{Replacing.offers_stay_after, Staying.few_of, Taking.rests_after}}
use Rattle.pim_event.proofs.event.take_in.Goals as goal

pub hear_packet-requires-clause-few : goal.hear_packet-requires-clause-few
hear_packet-requires-clause-few c =
    few_of c.args.core.now.world c.interfaces.result.now c.interfaces.ensures c.proof_few.ensures

pub hear_packet-requires-clause-frame : goal.hear_packet-requires-clause-frame
hear_packet-requires-clause-frame c = rw c.in-Some.is at c.as_frame.ensures.frame

pub hear_packet-requires-clause-unvisited : goal.hear_packet-requires-clause-unvisited
hear_packet-requires-clause-unvisited c = c.requires.unvisited (ap is_frame (rw c.in-Some.is at c.as_frame.ensures.frame))

pub judge_event-requires-clause-other : goal.judge_event-requires-clause-other
judge_event-requires-clause-other c = c.as_frame.ensures.other c.in-None.is

pub returns-in-Some-clause-rest : goal.returns-in-Some-clause-rest
returns-in-Some-clause-rest c =
    rests_after c.args.core.now.world c.hear_packet.new.core.world c.args.event.now c.hear_packet.result c.requires.begun.rest
    c.hear_packet.ensures.steps.state

pub returns-in-Some-clause-stays : goal.returns-in-Some-clause-stays
returns-in-Some-clause-stays c =
    let steps = c.hear_packet.ensures.steps in
    offers_stay_after c.hear_packet.result c.args.core.now.world c.hear_packet.new.core.world c.args.event.now
    c.hear_packet.new.core.cache.disturbed c.hear_packet.new.core.replaced c.requires.begun.rest
    (few_of c.args.core.now.world c.interfaces.result.now c.interfaces.ensures c.proof_few.ensures) steps.state
    (on_ok_weaker c.hear_packet.result (λ after. after.stays) steps.cache) steps.replaced

pub returns-in-None-clause-rest : goal.returns-in-None-clause-rest
returns-in-None-clause-rest c =
    rests_after c.args.core.now.world c.judge_event.new.core.world c.args.event.now c.judge_event.result c.requires.begun.rest
    c.judge_event.ensures.steps.state

pub returns-in-None-clause-stays : goal.returns-in-None-clause-stays
returns-in-None-clause-stays c =
    let steps = c.judge_event.ensures.steps in
    offers_stay_after c.judge_event.result c.args.core.now.world c.judge_event.new.core.world c.args.event.now
    c.judge_event.new.core.cache.disturbed c.judge_event.new.core.replaced c.requires.begun.rest
    (few_of c.args.core.now.world c.interfaces.result.now c.interfaces.ensures c.proof_few.ensures) steps.state
    (on_ok_weaker c.judge_event.result (λ after. after.stays) steps.cache) steps.replaced
