-- Hops in a network.
use Rattle.std.{proofs.{Common.{◌≡◌, ◌∙◌, ℕ, ◌<◌, ◌≤◌, ◌&&◌, Bool, true, false, cond, List, [], ◌∷◌, length, slice_get, Option, Some, None, is_some, option_and_then, refl, sym, ap, subst, arith, ltb-true}, lemmas.Option.slice_get-get_or}, specs.List.Contains}
use Rattle.pim_types.{specs.declared.{config.IfaceId.IfaceId, event.{Event.Event, EventKind.EventKind}, outcome.Emission.Emission}}
use Rattle.pim_model.{specs.{declared.accepted.Accepted.Accepted, Step.change, Network.{At, Deliver, DeliverUnicast, Move, Network, Sent as SentFrame, Station, event_of, frame_at, frame_event, is_on_frame_link, sent_by, station_at}, State.{State, iface_count}, Writing.{on_link, pim_to}}}
use Rattle.law_settled.{proofs.ListLaws.each_map}
use Rattle.law_streams.{specs.{Copies.copies_at, Hops.{AsACopy, Comes, GoesOn, InTheTunnel, OnALink, ToARouter}, NetHops.{Delivers, NetHop, NetHopsEnd}}, proofs.{Brought.packet_comes_from_event, Hops.{Sent, brought_header, falls, one_more, round, sent_as}, Links.{each_contained, on_each}, Made.{IsRegister, step_made}}}

-- ---- what a delivery is

record OnLinkOf (f : SentFrame) (e : Event) : Type 0 where
  iface : ℕ
  kind : e.kind ≡ EventKind.Frame (record { number = iface }) f.bytes
  link : is_some f.link ≡ true

abbrev at_router : ℕ → Event → Option (ℕ × Event)
at_router r e = Some (r, e)

the_event : (x y : ℕ × Event) → (let a : Option (ℕ × Event) = Some x in a) ≡ Some y → x.1 ≡ y.1
the_event x y e = let same : x ≡ y = cc e in ap (λ (p : ℕ × Event). p.1) same

delivered : (n : Network) (r i k draw : ℕ) (f : SentFrame) (router : ℕ) (e : Event) → frame_at n k ≡ Some f
    → event_of n (Deliver r i k draw) ≡ Some (router, e) → OnLinkOf f e
unfolding event_of
delivered n r i k draw f router e there is = go (station_at n r) (frame_at n k) there is
  where
    on : (st : Station) (b c : Bool) → is_some f.link ≡ b
        → cond (b && c) (at_router r (frame_event i draw f)) None ≡ Some (router, e) → OnLinkOf f e
    on st true true some h =
        let same : frame_event i draw f ≡ e = the_event (r, frame_event i draw f) (router, e) h in
        record { iface = i; kind = ap (λ (x : Event). x.kind) (sym same); link = some }
    on st true false some h = cc
    on st false c some h = cc

    go : (s : Option Station) (o : Option SentFrame) → o ≡ Some f
        → option_and_then (λ st. option_and_then (λ (g : SentFrame).
        cond (is_on_frame_link st i g) (at_router r (frame_event i draw g)) None) o) s ≡ Some (router, e) → OnLinkOf f e
    go None o same h = cc
    go (Some st) None same h = cc
    go (Some st) (Some g) same h =
        let it : g ≡ f = cc same in
        on st (is_some f.link) _ refl
        (subst (λ (x : SentFrame). cond (is_on_frame_link st i x) (at_router r (frame_event i draw x)) None ≡ Some (router, e)) it h)

as_unicast : (n : Network) (r k draw : ℕ) (f : SentFrame) (router : ℕ) (e : Event) → frame_at n k ≡ Some f
    → event_of n (DeliverUnicast r k draw) ≡ Some (router, e) → e.kind ≡ EventKind.Unicast f.bytes
unfolding event_of
as_unicast n r k draw f router e there is = grind (arith, the_event)

-- ---- what was sent on a link has one

there_is : (links : List ℕ) (i : ℕ) → i < length links → is_some (slice_get links i) ≡ true
there_is links i lt = ap (λ (o : Option ℕ). is_some o) (slice_get-get_or links i 0 lt)

record OnALinkBelow (n : ℕ) (y : Emission) : Type 0 where
  link : ℕ
  text : List ℕ
  is : y ≡ on_link link text
  below : link < n

copy_below : (s : State) (e : Event) (y : Emission) → Contains (copies_at s e) y → OnALinkBelow (iface_count s) y
copy_below s e y there =
    let made = step_made s e in
    each_contained (OnALinkBelow (iface_count s)) (on_each made.text made.links) y
    (each_map (λ i. i < iface_count s) (OnALinkBelow (iface_count s)) (λ i. on_link i made.text)
    (λ i lt. record { link = i; text = made.text; is = refl; below = lt }) made.links made.configured)
    (subst (λ (es : List Emission). Contains es y) made.copies there)

linked_copy : (links : List ℕ) (i : IfaceId) (bytes : List ℕ) (n : ℕ) → OnALinkBelow n (Emission.Link i bytes) → n ≤ length links
    → slice_get links i.number ≡ None → ⊥
linked_copy links i bytes n f le none =
    let same : i.number ≡ f.link = let is = f.is in cc is in
    let below : f.link < n = f.below in
    let some : is_some (slice_get links i.number) ≡ true = there_is links i.number (omega (arith, same, below, le)) in
    cc (some, none)

no_register : (s : State) (e : Event) (i : IfaceId) (bytes : List ℕ) (a : Accepted) → Contains (change s e.draw a).registered (Emission.Link i bytes) → ⊥
unfolding pim_to
no_register s e i bytes a there =
    let f : IsRegister (Some a) (Emission.Link i bytes) =
    each_contained (IsRegister (Some a)) (change s e.draw a).registered (Emission.Link i bytes) (round s e.draw a) there in
    let is = f.is in cc is

on_its_link : (s : State) (e : Event) (links : List ℕ) (i : IfaceId) (bytes : List ℕ) → GoesOn s e (Emission.Link i bytes)
    → iface_count s ≤ length links → slice_get links i.number ≡ None → ⊥
on_its_link s e links i bytes (AsACopy there) le none =
    linked_copy links i bytes (iface_count s) (copy_below s e (Emission.Link i bytes) there) le none
on_its_link s e links i bytes (InTheTunnel a done there) le none = no_register s e i bytes a there

-- ---- the frame that was sent comes as it was sent

module _ (f g h : SentFrame) (first : NetHop f g) (next : NetHop g h) where
  by_link : (out : Emission) → g ≡ sent_by first.station.links out → OnLinkOf g next.event → Comes out next.event
  by_link (Emission.Link i bytes) sent d =
      OnALink i (record { number = d.iface }) bytes refl (d.kind ∙ ap (λ (x : SentFrame). EventKind.Frame (record { number = d.iface }) x.bytes) sent)
  by_link (Emission.Unicast to bytes) sent d = let some = d.link in cc (some, sent)

  by_unicast : (out : Emission) → GoesOn first.station.state first.event out → g ≡ sent_by first.station.links out → g.link ≡ None
      → next.event.kind ≡ EventKind.Unicast g.bytes → Comes out next.event
  by_unicast (Emission.Link i bytes) on sent none kind =
      absurd (on_its_link first.station.state first.event first.station.links i bytes on first.linked
      (sym (ap (λ (x : SentFrame). x.link) sent) ∙ none))
  by_unicast (Emission.Unicast to bytes) on sent none kind =
      ToARouter to bytes refl (kind ∙ ap (λ (x : SentFrame). EventKind.Unicast x.bytes) sent)

  comes : (m : Move) → Delivers next.network m g → event_of next.network m ≡ Some (next.router, next.event) → Comes first.out next.event
  comes (At r e) d is = absurd d
  comes (Deliver r i k draw) d is =
      by_link first.out first.sent (delivered next.network r i k draw g next.router next.event d is)
  comes (DeliverUnicast r k draw) d is =
      by_unicast first.out first.goes_on first.sent d.1 (as_unicast next.network r k draw g next.router next.event d.0 is)

  next_comes : Comes first.out next.event
  next_comes = comes next.move next.delivers next.is

pub net_hops_end : NetHopsEnd
net_hops_end f g [] first later =
    ltb-true 1 first.packet.time_to_live
    (sent_as first.station.state first.event first.out first.packet first.brought first.goes_on).lives
net_hops_end f g (h ∷ hs) first later =
    let sent : Sent first.packet first.out =
    sent_as first.station.state first.event first.out first.packet first.brought first.goes_on in
    let next : NetHop g h = later.0 in
    one_more (length (h ∷ hs)) first.packet.time_to_live next.packet.time_to_live sent.lives
    (falls first.packet next.packet first.out next.event
    (brought_header first.event first.packet (packet_comes_from_event first.station.state first.event first.packet first.brought))
    sent.form (next_comes f g h first next)
    (packet_comes_from_event next.station.state next.event next.packet next.brought))
    (net_hops_end g h hs next later.1)
