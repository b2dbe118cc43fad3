-- Deliveries as events.
use Rattle.std.{proofs.Common.{◌≡◌, ℕ, Bool, true, Option, Some, None, refl, ap}, specs.Prelude.{IfSome, if◌then◌else◌, is_some, option_map}}
use Rattle.pim_types.{specs.declared.event.Event.Event}
use Rattle.pim_model.{specs.Network.{At, Deliver, DeliverUnicast, Move, Network, Sent, Station, bad_move, event_of, frame_at, is_on_frame_link, moved, moved_at, station_at}}
use Rattle.pim_net.{specs.Showing.{brought_on, brought_to}}

module _ (net : Network) (r k w : ℕ) where
  pub no_station : (i : ℕ) → station_at net r ≡ None
      → (event_of net (Deliver r i k w) ≡ None) × (event_of net (DeliverUnicast r k w) ≡ None)
  unfolding event_of
  no_station i e = (rw e refl, rw e refl)

  pub no_frame : (i : ℕ) (s : Option Station) → station_at net r ≡ s → frame_at net k ≡ None
      → (event_of net (Deliver r i k w) ≡ None) × (event_of net (DeliverUnicast r k w) ≡ None)
  unfolding event_of
  no_frame i None s f = no_station i s
  no_frame i (Some st) s f = (rw (s, f) refl, rw (s, f) refl)

  pub on_link : (i : ℕ) (s : Option Station) (f : Sent) (b : Bool) → s ≡ station_at net r → is_some s ≡ true
      → Some f ≡ frame_at net k → IfSome s (λ st. b ≡ is_on_frame_link st i f)
      → event_of net (Deliver r i k w) ≡ (if b then Some (r, brought_on i w f.bytes) else None)
  unfolding event_of
  on_link i None f b s there is on = cc there
  on_link i (Some st) f b s there is on = rw (← s, ← is, on) refl

  pub as_unicast : (s : Option Station) (f : Sent) → s ≡ station_at net r → is_some s ≡ true → Some f ≡ frame_at net k
      → event_of net (DeliverUnicast r k w) ≡ Some (r, brought_to w f.bytes)
  unfolding event_of
  as_unicast None f s there is = cc there
  as_unicast (Some st) f s there is = rw (← s, ← is) refl

-- ---- moves as the events that they are

pub moved_none : (net : Network) (m : Move) → event_of net m ≡ None → moved net m ≡ (bad_move, net)
unfolding moved
moved_none net m e = rw e refl

pub moved_some : (net : Network) (m : Move) (e : ℕ × Event) → event_of net m ≡ Some e → moved net m ≡ moved_at net e
unfolding moved
moved_some net m e is = rw is refl

at_none : (net : Network) (r : ℕ) (e : Event) → station_at net r ≡ None → moved net (At r e) ≡ moved_at net (r, e)
unfolding moved moved_at event_of
at_none net r e is = rw is refl

at_some : (net : Network) (r : ℕ) (e : Event) (st : Station) → station_at net r ≡ Some st
    → moved net (At r e) ≡ moved_at net (r, e)
unfolding event_of
at_some net r e st is = moved_some net (At r e) (r, e) (ap (option_map (λ (st : Station). (r, e))) is)

pub moved_event : (net : Network) (r : ℕ) (e : Event) → moved net (At r e) ≡ moved_at net (r, e)
moved_event net r e = go (station_at net r) refl
  where
    go : (s : Option Station) → station_at net r ≡ s → moved net (At r e) ≡ moved_at net (r, e)
    go None is = at_none net r e is
    go (Some st) is = at_some net r e st is
