use Rattle.pim_event.{proofs.Repeating.{register_fits, turns_register}}
use Rattle.pim_event.proofs.event.act_on_known_source.Goals as goal

pub change_quietly-requires-clause-plan : goal.change_quietly-requires-clause-plan
change_quietly-requires-clause-plan c =
    register_fits c.args.core.now.world c.requires.begun.rest c.args.packet c.args.register c.requires.kept

pub returns : goal.returns
returns c =
    turns_register c.args.core.now c.args.turn.now.draw c.args.packet c.args.register c.change_quietly.new.world
    c.change_quietly.result c.change_quietly.new.replaced c.interfaces.result.now c.requires.begun.rest
    c.requires.begun.shown c.requires.begun.unlisted c.requires.kept c.change_quietly.ensures.outcome
    c.change_quietly.ensures.state c.change_quietly.ensures.replaced c.change_quietly.ensures.fault c.interfaces.ensures
    c.proof_few.ensures
