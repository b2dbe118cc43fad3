-- One event of the network behind both fronts: the copies leave, the router answers, and then the Null-Registers leave.
use Rattle.std.{proofs.Common.{◌∙◌, List, ◌∷◌, [], Some, ap, sym}}
use Rattle.pim_types.{specs.declared.{event.Event.Event, outcome.Emission.Emission}}
use Rattle.pim_model.{specs.Network.moved_at}
use Rattle.pim_net.{specs.Showing.with_sent_at}
use Rattle.igmp_older.{specs.{Joined.joined_step, Presence.Present}}
use Rattle.igmp_older.specs.Joined as older
use Rattle.pim_lab.{specs.Fronts.behind, proofs.{Fronts.{of_some, shown}, Sharing.{copied, copied_here, left, network_is, outcome_is, shown_after}}}
use Rattle.pim_lab.proofs.shared.run_shared.Goals as goal

pub returns-clause-outcome : goal.returns-clause-outcome
returns-clause-outcome g c n st is here =
    let sets = c.args.station.now.anycast in
    let p = c.args.station.now.presence in
    let stands = c.in-Some.ensures.some.0 ∙ shown c.args.net.now.network n c.args.router st is here in
    let copies = c.in_ok-event.ensures.copies st.state stands in
    let given = c.in_ok-event.ensures.event st.state stands in
    let sent = of_some c.args.net.now.network _ n is c.in_ok-send.ensures.network
    ∙ ap (λ (es : List Emission). Some (with_sent_at n c.args.router es)) (c.as_slice.ensures ∙ copies) in
    let still = copied_here n c.args.router st here sets p c.args.event in
    let network = c.in_ok-log.ensures.network (copied n c.args.router st here sets p c.args.event) st sent still
    ∙ ap (λ (e : Event). Some (moved_at (copied n c.args.router st here sets p c.args.event)
    (c.args.router, older.event_given (behind p st.state) e)).1) given in
    let after = c.in_ok-announced.ensures (left n c.args.router st here sets p c.args.event)
    (c.in-Some-router.ensures.some.0 ∙ shown_after n c.args.router st here sets p c.args.event _ network)
    ∙ c.in_ok-event.ensures.watch st.state stands (left n c.args.router st here sets p c.args.event) in
    let came = c.in_ok-log.ensures.outcome (copied n c.args.router st here sets p c.args.event) st sent still
    ∙ ap (λ (e : Event). (joined_step (behind p st.state) e).0 ∷ []) given in
    let one = sym c.in-Some-only_outcome.is ∙ c.only_outcome.ensures _ came in
    c.in_ok-with_beside.ensures
    ∙ outcome_is n c.args.router st here sets p c.args.event _ _ _ copies (cc one) after

pub returns-clause-network : goal.returns-clause-network
returns-clause-network g c n st is here =
    let sets = c.args.station.now.anycast in
    let p = c.args.station.now.presence in
    let stands = c.in-Some.ensures.some.0 ∙ shown c.args.net.now.network n c.args.router st is here in
    let copies = c.in_ok-event.ensures.copies st.state stands in
    let given = c.in_ok-event.ensures.event st.state stands in
    let sent = of_some c.args.net.now.network _ n is c.in_ok-send.ensures.network
    ∙ ap (λ (es : List Emission). Some (with_sent_at n c.args.router es)) (c.as_slice.ensures ∙ copies) in
    let still = copied_here n c.args.router st here sets p c.args.event in
    let network = c.in_ok-log.ensures.network (copied n c.args.router st here sets p c.args.event) st sent still
    ∙ ap (λ (e : Event). Some (moved_at (copied n c.args.router st here sets p c.args.event)
    (c.args.router, older.event_given (behind p st.state) e)).1) given in
    let after = c.in_ok-announced.ensures (left n c.args.router st here sets p c.args.event)
    (c.in-Some-router.ensures.some.0 ∙ shown_after n c.args.router st here sets p c.args.event _ network)
    ∙ c.in_ok-event.ensures.watch st.state stands (left n c.args.router st here sets p c.args.event) in
    network_is n c.args.router st here sets p c.args.event _ _ (of_some _ _ _ network c.in_ok-send-2.ensures.network)
    (c.deref.ensures.value ∙ after)

pub returns-clause-station : goal.returns-clause-station
returns-clause-station g c n st is here =
    let sets = c.args.station.now.anycast in
    let p = c.args.station.now.presence in
    let stands = c.in-Some.ensures.some.0 ∙ shown c.args.net.now.network n c.args.router st is here in
    let copies = c.in_ok-event.ensures.copies st.state stands in
    let given = c.in_ok-event.ensures.event st.state stands in
    let sent = of_some c.args.net.now.network _ n is c.in_ok-send.ensures.network
    ∙ ap (λ (es : List Emission). Some (with_sent_at n c.args.router es)) (c.as_slice.ensures ∙ copies) in
    let still = copied_here n c.args.router st here sets p c.args.event in
    let known = c.in_ok-log.ensures.presence (copied n c.args.router st here sets p c.args.event) st sent still in
    ap (λ (q : Present). record c.args.station.now { presence = q })
    (known ∙ ap (λ (e : Event). (joined_step (behind p st.state) e).1.present) given)
