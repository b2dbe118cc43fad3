-- Where a settle delivers the frames that wait for it.
use Rattle.std.{specs.{List.{list_any, position}, Option.option_map_or, Prelude.{Bool, List, None, Option, Some, [], if◌then◌else◌, not, option_and_then, option_map, slice_get, suc, ℕ, ◌&&◌, ◌++◌, ◌+◌, ◌==◌, ◌∷◌}}}
use Rattle.pim_ip.{specs.declared.addr.Addr.Addr}
use Rattle.pim_scenario.{specs.declared.scenario.Link.Link}
use Rattle.pim_types.{specs.declared.{config.IfaceId.IfaceId, outcome.Emission.Emission}}
use Rattle.lab_parts.{specs.declared.{frames.{Delivery.Delivery, Departure.Departure, Frame.Frame, OnLink.OnLink}, station.Station.Station}}

-- How many frames were sent, the deliveries that are left of the current frame, and the frames that no settle has
-- taken.
pub record Queue : Type 0 where
  pub sent : ℕ
  pub begun : List Delivery
  pub waiting : List Frame

-- Where a router's packet leaves.
abbrev pub departure_of : ℕ → Emission → Departure
departure_of router (Emission.Link iface bytes) = Departure.Interface router iface
departure_of router (Emission.Unicast destination bytes) = Departure.Unicast destination

-- The queue with one packet more, which has the next number.
abbrev pub with_sent : ℕ → Emission → Queue → Queue
with_sent router e q = record q {
  sent = q.sent + 1;
  waiting = q.waiting ++ record { number = q.sent + 1; departure = departure_of router e } ∷ [];
}

-- The interface is on the link, and isn't the one on which the frame left.
abbrev pub receives : OnLink → ℕ → ℕ → Link → Bool
receives f router i l = l.number == f.link && not (router == f.router && i == f.iface.number)

abbrev pub delivery_to : ℕ → Option IfaceId → ℕ → Delivery
delivery_to router iface frame = record { router = router; iface = iface; frame = frame }

-- The delivery to an interface, if it receives the frame.
abbrev pub received : OnLink → ℕ → ℕ → Link → List Delivery
received f router i l =
    if receives f router i l then delivery_to router (Some (record { number = i })) f.frame ∷ [] else []

-- The deliveries to the interfaces of a router from one on, with the links from there on.
unfoldable pub to_interfaces : OnLink → ℕ → ℕ → List Link → List Delivery
to_interfaces f router i [] = []
to_interfaces f router i (l ∷ ls) = received f router i l ++ to_interfaces f router (suc i) ls

-- The deliveries to every other interface on the link, by router and interface, for the routers from one on.
unfoldable pub to_routers : OnLink → ℕ → List Station → List Delivery
to_routers f router [] = []
to_routers f router (s ∷ ss) = to_interfaces f router 0 s.links ++ to_routers f (suc router) ss

-- the number of an interface's link
abbrev pub link_of : List Station → ℕ → ℕ → Option ℕ
link_of stations router iface =
    option_and_then (λ (s : Station). option_map (λ (l : Link). l.number) (slice_get s.links iface))
    (slice_get stations router)

-- the first router with the address
abbrev pub owner_of : List Station → ℕ → Option ℕ
owner_of stations address = position (λ (s : Station). list_any (λ (a : Addr). a.bits == address) s.addresses) stations

-- Where a frame is delivered: to every other interface on its link, or to the first router with its address.
unfoldable pub deliveries_of : List Station → ℕ → Departure → List Delivery
deliveries_of stations frame (Departure.Interface router iface) =
    option_map_or
    (λ link. to_routers (record { link = link; frame = frame; router = router; iface = iface }) 0 stations)
    (link_of stations router iface.number) []
deliveries_of stations frame (Departure.Unicast destination) =
    option_map_or (λ router. delivery_to router None frame ∷ []) (owner_of stations destination.bits) []

-- The next delivery of a settle, and what is left: the next of the current frame, or the first of the next frame that
-- has one.
unfoldable pub next_delivery : List Station → ℕ → List Frame → List Delivery → Option Delivery × Queue
next_delivery stations sent [] [] = (None, record { sent = sent; begun = []; waiting = [] })
next_delivery stations sent (f ∷ fs) [] =
    next_delivery stations sent fs (deliveries_of stations f.number f.departure)
next_delivery stations sent fs (d ∷ ds) = (Some d, record { sent = sent; begun = ds; waiting = fs })
