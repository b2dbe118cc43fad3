-- One event of the network, which the front gives.
use Rattle.std.{proofs.Common.{◌∙◌, ℕ, List, ◌∷◌, [], Some, ap, sym}}
use Rattle.pim_types.{specs.declared.{event.Event.Event, outcome.Outcome.Outcome}}
use Rattle.pim_model.{specs.{Network.{Network, moved_at, stepped}, Step.step}}
use Rattle.pim_lab.{specs.Fronts.marked, proofs.Fronts.{known_behind, moved_at_is, of_some, one_event, outcome_behind, shown, station_after}}
use Rattle.pim_lab.proofs.front.run_behind.Goals as goal

pub returns-clause-outcome : goal.returns-clause-outcome
returns-clause-outcome g c n st is here =
    let stands = c.in-Some.ensures.some.0 ∙ shown _ n c.args.router st is here in
    let done = one_event n c.args.router st here g.W.Wire.is_faithful g.W.Wire.sends g.W.Wire.gives _ c.in_ok-event.field-0.event
    _ _ _ _ (of_some _ _ n is c.in_ok-log.ensures.moves) in
    done.0
    ∙ ap (λ (o : Outcome). o ∷ []) (outcome_behind n c.args.router st here c.args.presence.now c.args.event
    c.in_ok-event.field-0.event (c.in_ok-event.ensures.event st.state stands))

pub returns-clause-network : goal.returns-clause-network
returns-clause-network g c n st is here =
    let stands = c.in-Some.ensures.some.0 ∙ shown _ n c.args.router st is here in
    let done = one_event n c.args.router st here g.W.Wire.is_faithful g.W.Wire.sends g.W.Wire.gives _ c.in_ok-event.field-0.event
    _ _ _ _ (of_some _ _ n is c.in_ok-log.ensures.moves) in
    done.1
    ∙ ap (λ (m : Outcome × Network). Some m.1) (sym (moved_at_is n c.args.router st here c.in_ok-event.field-0.event)
    ∙ ap (λ (e : Event). moved_at n (c.args.router, e)) (c.in_ok-event.ensures.event st.state stands))

pub returns-clause-presence : goal.returns-clause-presence
returns-clause-presence g c n st is here =
    let stands = c.in-Some.ensures.some.0 ∙ shown _ n c.args.router st is here in
    let done = one_event n c.args.router st here g.W.Wire.is_faithful g.W.Wire.sends g.W.Wire.gives _ c.in_ok-event.field-0.event
    _ _ _ _ (of_some _ _ n is c.in_ok-log.ensures.moves) in
    c.in_ok-keep_logged.ensures.ok (stepped n c.args.router c.in_ok-event.field-0.event st).1
    (record st { state = (step st.state c.in_ok-event.field-0.event).state })
    (stepped n c.args.router c.in_ok-event.field-0.event st).0 done.1
    (station_after n c.args.router st here c.in_ok-event.field-0.event) (c.deref-2.ensures.value ∙ done.0)
    ∙ ap (λ (xs : List ℕ). marked c.args.presence.now (step st.state c.in_ok-event.field-0.event).state.group_records c.in_ok-event.field-0.mark xs
    ((stepped n c.args.router c.in_ok-event.field-0.event st).0).answer) c.deref.ensures.value
    ∙ known_behind n c.args.router st here c.args.presence.now c.args.event c.in_ok-event.field-0.event
    (c.in_ok-event.ensures.event st.state stands) c.in_ok-event.field-0.mark c.in_ok-event.field-0.packet.items
    (c.in_ok-event.ensures.mark st.state stands)
