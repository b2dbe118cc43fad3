use Rattle.std.{proofs.Common.{◌≡◌, ◌∙◌, ◌+◌, ℕ, ap, get_or, refl, subst}}
use Rattle.lab_parts.{specs.Carrying.IsCarried}
use Rattle.pim_net.{specs.{Carried.port_of, declared.moves.Move.Move}, proofs.{Carries.{delivered, is_there, packet_to, refused, uncounted}, Stations.{if_some, of_some, on_err}}}
use Rattle.pim_net.proofs.net.deliver_unicast.Goals as goal

pub returns-in_default-clause-moves : goal.returns-in_default-clause-moves
returns-in_default-clause-moves g c = if_some c.args.network.now _ (λ n is.
    refused g.W.Wire.is_faithful g.W.Wire.sends g.W.Wire.gives c.args.ports.now n c.args.wire.now
    (Move.DeliverUnicast c.args.place.0 c.args.place.1 c.args.draw) c.args.network.now c.args.wire.now c.bad_move.result
    (of_some c.args.network.now _ n is c.in_default.ensures.none c.args.draw) c.bad_move.ensures is refl)

pub returns-in_err-bytes-clause-kept : goal.returns-in_err-bytes-clause-kept
returns-in_err-bytes-clause-kept g c = if_some c.args.network.now _ (λ n is.
    on_err c.from_residual.result _ (λ fault wire. (
      is,
      is_there _ _ (packet_to n c.args.place.0 c.args.place.1 c.args.draw _
          (of_some c.args.network.now _ n is c.in-Some.ensures.some c.args.draw)),
    )))

pub returns-clause-moves : goal.returns-clause-moves
returns-clause-moves g c = if_some c.args.network.now _ (λ n is.
    let event = of_some c.args.network.now _ n is c.in-Some.ensures.some c.args.draw in
    let port : c.from.result + c.in-Some.delivery.place ≡ port_of c.args.ports.now n
    (Move.DeliverUnicast c.args.place.0 c.args.place.1 c.args.draw) =
    ap (λ (first : ℕ). first + c.in-Some.delivery.place) (c.from.ensures ∙ c.first_port.ensures)
    ∙ ap (λ (place : ℕ). get_or c.args.ports.now c.args.place.0 0 + place) (of_some c.args.network.now _ n is c.in-Some.ensures.place) in
    delivered g.W.Wire.is_faithful g.W.Wire.sends g.W.Wire.gives c.args.ports.now n c.args.wire.now
    (Move.DeliverUnicast c.args.place.0 c.args.place.1 c.args.draw) c.receive.new.self c.carry.new.wire c.receive.result
    _ c.in_ok-bytes.bytes (packet_to n c.args.place.0 c.args.place.1 c.args.draw _ event)
    (subst (λ (p : ℕ). IsCarried g.W.Wire.is_faithful g.W.Wire.sends g.W.Wire.gives c.args.wire.now p
    c.in-Some.delivery.bytes.now c.in_ok-bytes.bytes c.carry.new.wire) port c.in_ok-bytes.ensures.carried)
    (of_some c.args.network.now _ n is c.receive.ensures.outcome)
    (of_some c.args.network.now _ n is c.receive.ensures.network))

pub returns-clause-counted : goal.returns-clause-counted
returns-clause-counted g c = if_some c.args.network.now _ (λ n is.
    c.in_ok-bytes.ensures.counted ∙ uncounted _ _ (of_some c.args.network.now _ n is c.receive.ensures.fault))
