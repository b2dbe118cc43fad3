use Rattle.std.{proofs.Common.{option_map, sym, ◌∙◌}}
use Rattle.pim_filters.{specs.Asking.asked_in_order}
use Rattle.igmp_wire.{specs.Written.bits_of}
use Rattle.pim_querier.{proofs.{Queried.{said_of_both, state_of_both}, Starting.then_ok}}
use Rattle.pim_querier.proofs.asked.query_asked.Goals as goal

pub returns-then-asks_group-clause-state : goal.returns-then-asks_group-clause-state
returns-then-asks_group-clause-state c =
    then_ok c.query_group.result
    (state_of_both c.args.place.iface.number c.args.place.group.bits c.args.world.now c.args.turn.now c.query_asked_sources.new.world
    c.query_asked_sources.new.turn c.args.asked.now (option_map (λ named. bits_of named.now) c.sources.result)
    (c.sources.ensures.whole
    ∙ (λ j. asked_in_order (sym c.sources.ensures.sources j) ((sym c.asks_group.ensures ∙ c.if-asks_group.true) j)))
    (c.in_ok-query_asked_sources.ensures.state, c.in_ok-query_asked_sources.ensures.messages) c.query_group.new.world)
    c.query_group.ensures.state

pub returns-then-asks_group-clause-messages : goal.returns-then-asks_group-clause-messages
returns-then-asks_group-clause-messages c =
    then_ok c.query_group.result
    (said_of_both c.args.place.iface.number c.args.place.group.bits c.args.world.now c.args.turn.now c.query_asked_sources.new.world
    c.query_asked_sources.new.turn c.args.asked.now (option_map (λ named. bits_of named.now) c.sources.result)
    (c.sources.ensures.whole
    ∙ (λ j. asked_in_order (sym c.sources.ensures.sources j) ((sym c.asks_group.ensures ∙ c.if-asks_group.true) j)))
    (c.in_ok-query_asked_sources.ensures.state, c.in_ok-query_asked_sources.ensures.messages) c.query_group.new.turn)
    c.query_group.ensures.messages
