use Rattle.std.{proofs.Common.{ap, ◌∙◌}}
use Rattle.pim_fanout.{specs.Named.keys_of}
use Rattle.pim_views.{specs.After.openings_in}
use Rattle.pim_settling.{proofs.Following.{seen_messages, seen_named, seen_state}}
use Rattle.pim_settling.proofs.settle.follow_groups.Goals as goal

pub returns-clause-state : goal.returns-clause-state
returns-clause-state c =
    c.in_ok-changed.ensures.state
    ∙ seen_state c.args.opening.now c.args.world.now c.clear_groups.new.world c.args.turn.now c.clear_groups.new.turn
    c.in_ok-seen.ensures.state c.in_ok-seen.ensures.messages _
    (ap openings_in c.as_slice-groups.ensures.value ∙ c.in_ok-seen.ensures.opening)

pub returns-clause-messages : goal.returns-clause-messages
returns-clause-messages c =
    c.in_ok-changed.ensures.messages
    ∙ seen_messages c.args.opening.now c.args.world.now c.clear_groups.new.world c.args.turn.now c.clear_groups.new.turn
    c.in_ok-seen.ensures.state c.in_ok-seen.ensures.messages _
    (ap openings_in c.as_slice-groups.ensures.value ∙ c.in_ok-seen.ensures.opening)

pub returns-clause-named : goal.returns-clause-named
returns-clause-named c =
    seen_named c.args.opening.now c.args.world.now c.clear_groups.new.world c.args.turn.now c.clear_groups.new.turn
    c.in_ok-seen.ensures.state c.in_ok-seen.ensures.messages c.args.before.now (keys_of c.in_ok-names.names)
    c.in_ok-names.ensures
