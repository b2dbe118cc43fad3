use Rattle.std.{proofs.Common.{◌≡◌, ◌∙◌, None, Some, false, true, List, ℕ, ap, refl, sym}}
use Rattle.pim_model.{specs.Network.{Deliver, Sent, event_of}}
use Rattle.pim_net.{specs.Showing.brought_on, proofs.{Events.{no_frame, no_station, on_link}, Stations.{if_some, of_some, on_none}}}
use Rattle.pim_net.proofs.network.Network.to_interface.Goals as goal

pub returns-in_err-station-clause-none : goal.returns-in_err-station-clause-none
returns-in_err-station-clause-none c = if_some c.args.self.now _ (λ net is. let none : (w : ℕ) → event_of net (Deliver c.args.router c.args.iface.number c.args.frame w) ≡ None = λ w.
    (no_station net c.args.router c.args.frame w c.args.iface.number
    (of_some c.args.self.now _ net is c.in_err-station.ensures.none)).0 in
    on_none _ _ none)

pub returns-in_err-frame-clause-none : goal.returns-in_err-frame-clause-none
returns-in_err-frame-clause-none c = if_some c.args.self.now _ (λ net is. let none : (w : ℕ) → event_of net (Deliver c.args.router c.args.iface.number c.args.frame w) ≡ None = λ w.
    (no_frame net c.args.router c.args.frame w c.args.iface.number _ refl
    (sym (of_some c.args.self.now _ net is c.in_err-frame.ensures))).0 in
    on_none _ _ none)

pub returns-in_err-place-clause-none : goal.returns-in_err-place-clause-none
returns-in_err-place-clause-none c = if_some c.args.self.now _ (λ net is. let none : (w : ℕ) → event_of net (Deliver c.args.router c.args.iface.number c.args.frame w) ≡ None = λ w.
    let station = of_some c.args.self.now _ net is c.in_ok-station.ensures.some in
    on_link net c.args.router c.args.frame w c.args.iface.number c.in_ok-station.station.now c.in_ok-frame.frame.now false
    station.0 station.1 (of_some c.args.self.now _ net is c.in_ok-frame.ensures) c.in_err-place.ensures.on_link in
    on_none _ _ none)

pub returns-clause-some : goal.returns-clause-some
returns-clause-some c = if_some c.args.self.now _ (λ net is. λ w.
    let station = of_some c.args.self.now _ net is c.in_ok-station.ensures.some in
    on_link net c.args.router c.args.frame w c.args.iface.number c.in_ok-station.station.now c.in_ok-frame.frame.now true
    station.0 station.1 (of_some c.args.self.now _ net is c.in_ok-frame.ensures) c.in_ok-place.ensures.on_link
    ∙ ap (λ (bytes : List ℕ). Some (c.args.router, brought_on c.args.iface.number w bytes))
    (sym (c.as_slice.ensures ∙ ap (λ (f : Sent). f.bytes) c.frame-2.view_is)))
