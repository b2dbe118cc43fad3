use Rattle.std.{proofs.Common.{◌≡◌, ◌∙◌, None, Some, List, ℕ, ap, refl, sym}}
use Rattle.pim_model.{specs.Network.{DeliverUnicast, Sent, event_of}}
use Rattle.pim_net.{specs.Showing.brought_to, proofs.{Events.{as_unicast, no_frame, no_station}, Stations.{if_some, of_some, on_none}}}
use Rattle.pim_net.proofs.network.Network.to_router.Goals as goal

pub returns-in_err-station-clause-none : goal.returns-in_err-station-clause-none
returns-in_err-station-clause-none c = if_some c.args.self.now _ (λ net is. let none : (w : ℕ) → event_of net (DeliverUnicast c.args.router c.args.frame w) ≡ None = λ w.
    (no_station net c.args.router c.args.frame w 0
    (of_some c.args.self.now _ net is c.in_err-station.ensures.none)).1 in
    on_none _ _ none)

pub returns-in_err-frame-clause-none : goal.returns-in_err-frame-clause-none
returns-in_err-frame-clause-none c = if_some c.args.self.now _ (λ net is. let none : (w : ℕ) → event_of net (DeliverUnicast c.args.router c.args.frame w) ≡ None = λ w.
    (no_frame net c.args.router c.args.frame w 0 _ refl
    (sym (of_some c.args.self.now _ net is c.in_err-frame.ensures))).1 in
    on_none _ _ none)

pub returns-clause-some : goal.returns-clause-some
returns-clause-some c = if_some c.args.self.now _ (λ net is. λ w.
    let station = of_some c.args.self.now _ net is c.in_ok-station.ensures.some in
    as_unicast net c.args.router c.args.frame w c.in_ok-station.station.now c.in_ok-frame.frame.now
    station.0 station.1 (of_some c.args.self.now _ net is c.in_ok-frame.ensures)
    ∙ ap (λ (bytes : List ℕ). Some (c.args.router, brought_to w bytes))
    (sym (c.as_slice.ensures ∙ ap (λ (f : Sent). f.bytes) c.frame-2.view_is)))
