-- Moves over a wire, whichever it is.
use Rattle.std.{proofs.Common.{◌≡◌, ◌∙◌, Bool, true, false, List, Option, Some, None, Result, Ok, Err, ap, refl, subst, sym, ℕ}, specs.Prelude.{IfOk, IsOkUnless, IsSome, OnOk, if◌then◌else◌, option_and_then, option_map}}
use Rattle.pim_ip.{specs.declared.fault.Fault.Fault}
use Rattle.pim_types.{specs.declared.{config.IfaceId.IfaceId, event.Event.Event, outcome.Outcome.Outcome}}
use Rattle.pim_model.{specs.Network.{Network, Sent, Station, bad_move, event_of, frame_at, is_on_frame_link, moved, moved_at, station_at}}
use Rattle.lab_parts.{specs.{Carrying.IsCarried, Wires.failures_after}}
use Rattle.pim_net.{specs.{Carried.{IsMove, IsMoveOf, MovesTo, bytes_of_kind, carried_packet, moved_with, port_of}, Showing.{brought_on, brought_to, move_of}, declared.moves.Move.Move}, proofs.Events.{moved_event, moved_none, moved_some}}
use Rattle.pim_model.specs.Network as written

abbrev event_bytes : ℕ × Event → List ℕ
event_bytes e = bytes_of_kind (e.1).kind

-- ---- the packet of a move

pub no_packet : (n : Network) (m : Move) → event_of n (move_of m) ≡ None → carried_packet n m ≡ None
unfolding carried_packet
no_packet n (Move.Event r e) is = refl
no_packet n (Move.Deliver r i k w) is = ap (option_map event_bytes) is
no_packet n (Move.DeliverUnicast r k w) is = ap (option_map event_bytes) is

event_packet : (n : Network) (r : ℕ) (e : Event) → carried_packet n (Move.Event r e) ≡ None
unfolding carried_packet
event_packet n r e = refl

pub packet_on : (n : Network) (r : ℕ) (i : IfaceId) (k w : ℕ) (bytes : List ℕ)
    → event_of n (written.Deliver r i.number k w) ≡ Some (r, brought_on i.number w bytes)
    → carried_packet n (Move.Deliver r i k w) ≡ Some bytes
unfolding carried_packet
packet_on n r i k w bytes is = ap (option_map event_bytes) is

pub packet_to : (n : Network) (r k w : ℕ) (bytes : List ℕ)
    → event_of n (written.DeliverUnicast r k w) ≡ Some (r, brought_to w bytes)
    → carried_packet n (Move.DeliverUnicast r k w) ≡ Some bytes
unfolding carried_packet
packet_to n r k w bytes is = ap (option_map event_bytes) is

pub is_there : {A : Type 0} (o : Option A) (x : A) → o ≡ Some x → IsSome o
is_there None x is = cc is
is_there (Some y) x is = refl

-- a call that doesn't fail for the wire isn't counted
pub uncounted : {A : Type 0} (before : ℕ) (r : Result A Fault) → IsOkUnless r Fault.Memory
    → before ≡ failures_after before r
uncounted before (Ok x) is = refl
uncounted before (Err Fault.Memory) is = refl
uncounted before (Err Fault.Failed) is = refl
uncounted before (Err Fault.Wire) is = cc is

-- ---- a move whose packet comes as it was sent is the written one

module _ (r i w : ℕ) (e : ℕ × Event) where
  on_if : (b : Bool) (f : Sent) → (if b then Some (r, brought_on i w f.bytes) else None) ≡ Some e
      → Some e ≡ Some (r, brought_on i w (event_bytes e))
  on_if false f is = cc is
  on_if true f is =
      sym is ∙ ap (λ (x : Option (ℕ × Event)). option_map (λ (x : ℕ × Event). (r, brought_on i w (event_bytes x))) x) is

  on_shape : (s : Option Station) (f : Option Sent)
      → option_and_then (λ st. option_and_then (λ (f : Sent). if is_on_frame_link st i f then Some (r, brought_on i w f.bytes) else None) f) s
      ≡ Some e → Some e ≡ Some (r, brought_on i w (event_bytes e))
  on_shape None f is = cc is
  on_shape (Some st) None is = cc is
  on_shape (Some st) (Some f) is = on_if (is_on_frame_link st i f) f is

  to_shape : (s : Option Station) (f : Option Sent)
      → option_and_then (λ (st : Station). option_map (λ (f : Sent). (r, brought_to w f.bytes)) f) s ≡ Some e
      → Some e ≡ Some (r, brought_to w (event_bytes e))
  to_shape None f is = cc is
  to_shape (Some st) None is = cc is
  to_shape (Some st) (Some f) is =
      sym is ∙ ap (λ (x : Option (ℕ × Event)). option_map (λ (x : ℕ × Event). (r, brought_to w (event_bytes x))) x) is

on_event : (n : Network) (r i k w : ℕ) (e : ℕ × Event) → event_of n (written.Deliver r i k w) ≡ Some e
    → event_of n (written.Deliver r i k w) ≡ Some (r, brought_on i w (event_bytes e))
unfolding event_of
on_event n r i k w e is = is ∙ on_shape r i w e (station_at n r) (frame_at n k) is

to_event : (n : Network) (r k w : ℕ) (e : ℕ × Event) → event_of n (written.DeliverUnicast r k w) ≡ Some e
    → event_of n (written.DeliverUnicast r k w) ≡ Some (r, brought_to w (event_bytes e))
unfolding event_of
to_event n r k w e is = is ∙ to_shape r 0 w e (station_at n r) (frame_at n k) is

as_written : (n : Network) (m : Move) (packet : List ℕ) → carried_packet n m ≡ Some packet
    → moved_with n m packet ≡ moved n (move_of m)
unfolding carried_packet
as_written n (Move.Event r e) packet is = cc is
as_written n (Move.Deliver r i k w) packet is = go (event_of n (written.Deliver r i.number k w)) refl is
  where
    go : (e : Option (ℕ × Event)) → event_of n (written.Deliver r i.number k w) ≡ e
        → option_map event_bytes e ≡ Some packet
        → moved_at n (r, brought_on i.number w packet) ≡ moved n (written.Deliver r i.number k w)
    go None at same = cc same
    go (Some e) at same =
        ap (λ (b : List ℕ). moved_at n (r, brought_on i.number w b)) (sym (cc same))
        ∙ sym (moved_some n (written.Deliver r i.number k w) _ (on_event n r i.number k w e at))
as_written n (Move.DeliverUnicast r k w) packet is = go (event_of n (written.DeliverUnicast r k w)) refl is
  where
    go : (e : Option (ℕ × Event)) → event_of n (written.DeliverUnicast r k w) ≡ e
        → option_map event_bytes e ≡ Some packet
        → moved_at n (r, brought_to w packet) ≡ moved n (written.DeliverUnicast r k w)
    go None at same = cc same
    go (Some e) at same =
        ap (λ (b : List ℕ). moved_at n (r, brought_to w b)) (sym (cc same))
        ∙ sym (moved_some n (written.DeliverUnicast r k w) _ (to_event n r k w e at))

module _ {W : Type 0} (is_faithful : Bool) (sends : W → ℕ → List ℕ → W → Type 0) (gives : W → ℕ → ℕ → List ℕ → W → Type 0)
    (ports : List ℕ) where
  pub is_written : (n : Network) (before : W) (m : Move) (o : Outcome) (next : Network) (after : W) → is_faithful ≡ true
      → IsMove is_faithful sends gives ports n before m o next after → (o, next) ≡ moved n (move_of m)
  is_written n before m o next after f move = go (carried_packet n m) refl move
    where
      go : (p : Option (List ℕ)) → carried_packet n m ≡ p → IsMoveOf is_faithful sends gives ports p n before m o next after
          → (o, next) ≡ moved n (move_of m)
      go None is move = move.0
      go (Some packet) is move =
          move.moved_is ∙ ap (moved_with n m) (move.carried.is_same f) ∙ as_written n m packet is

  -- ---- what was done is a move

  module _ (n : Network) (before : W) (m : Move) (next : Option Network) (after : W) where
    unmoved : (o : Outcome) (network : Network) → carried_packet n m ≡ None → (o, network) ≡ moved n (move_of m)
        → next ≡ Some network → after ≡ before → MovesTo is_faithful sends gives ports n before m o next after
    unmoved o network none is left same =
        record {
          network = network;
          is = left;
          move = subst (λ (p : Option (List ℕ)). IsMoveOf is_faithful sends gives ports p n before m o network after)
              (sym none) (is, same);
        }

    pub refused : (o : Outcome) → event_of n (move_of m) ≡ None → o ≡ bad_move → next ≡ Some n → after ≡ before
        → MovesTo is_faithful sends gives ports n before m o next after
    refused o none bad left same =
        unmoved o n (no_packet n m none) (ap (λ (x : Outcome). (x, n)) bad ∙ sym (moved_none n (move_of m) none)) left same

    pub happened : (r : Result Outcome Fault) (router : ℕ) (e : Event) → m ≡ Move.Event router e
        → IfOk r (λ o. o ≡ (moved_at n (router, e)).0) → OnOk r (next ≡ Some (moved_at n (router, e)).1) → after ≡ before
        → IfOk r (λ o. MovesTo is_faithful sends gives ports n before m o next after)
    happened (Err fault) router e is outcome network same = tt
    happened (Ok o) router e is outcome network same =
        unmoved o (moved_at n (router, e)).1 (ap (carried_packet n) is ∙ event_packet n router e)
        (ap (λ (x : Outcome). (x, (moved_at n (router, e)).1)) outcome ∙ sym (moved_event n router e)
        ∙ ap (λ (x : Move). moved n (move_of x)) (sym is)) network same

    pub delivered : (r : Result Outcome Fault) (packet given : List ℕ) → carried_packet n m ≡ Some packet
        → IsCarried is_faithful sends gives before (port_of ports n m) packet given after
        → IfOk r (λ o. o ≡ (moved_with n m given).0) → OnOk r (next ≡ Some (moved_with n m given).1)
        → IfOk r (λ o. MovesTo is_faithful sends gives ports n before m o next after)
    delivered (Err fault) packet given is carried outcome network = tt
    delivered (Ok o) packet given is carried outcome network =
        record {
          network = (moved_with n m given).1;
          is = network;
          move = subst (λ (p : Option (List ℕ)). IsMoveOf is_faithful sends gives ports p n before m o (moved_with n m given).1 after)
              (sym is) (record {
                given = given;
                carried = carried;
                moved_is = ap (λ (x : Outcome). (x, (moved_with n m given).1)) outcome;
              });
        }
