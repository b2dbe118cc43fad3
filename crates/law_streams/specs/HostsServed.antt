-- A host that requests a group is served: its request goes up a way, and every packet comes down it.
use Rattle.std.{specs.{List.AllByRecursion, Prelude.{List, Some, [], false, length, slice_get, true, ℕ, ◌+◌, ◌<◌, ◌==◌, ◌∷◌, ◌≡◌}}}
use Rattle.pim_types.{specs.declared.event.Event.Event}
use Rattle.igmp_wire.{specs.{Values.Record, declared.report.RecordType.RecordType}}
use Rattle.law_settled.{specs.Ready.IsSettled}
use Rattle.pim_model.{specs.{declared.accepted.Accepted.Accepted, Cause.done_as, Full.passes_limit, Neighbours.is_dr, Network.{At, Move, Network, network_ran, station_at}, Querier.is_excluding, State.{State, iface_count, is_own, is_up}, Step.step, Unicast.rp_of, Upstream.is_pruned_with_star}}
use Rattle.law_streams.{specs.{Copies.happens, Flows.{IsCarried, IsFlowed, PassesOn}, Joins.{ComesToWantStar, is_time}, Ways.{AreApart, AreDeliveries, CanGoOn, HasTaken, IsGroup, IsWay, Place, StandIn, state_of, up_address, up_iface}}}

-- A place of a way with its router in another state.
abbrev pub became : Place → State → Place
became p t = record p { station = record p.station { state = t } }

-- An event, such as a host's report, by which the group comes to be wanted at a router. After it the router forwards
-- the source's packets to the host's link, and prunes no source off the tree.
pub record Asks (g rp src link : ℕ) (p : Place) (e : Event) : Type 0 where
  pub accepted : Accepted
  pub done : done_as (happens (state_of p) e) ≡ Some accepted
  pub timeless : is_time accepted ≡ false
  pub comes : ComesToWantStar (state_of p) (step (state_of p) e).state g rp p.next
  pub prunes_none : (other : ℕ) → is_pruned_with_star (step (state_of p) e).state g other ≡ false
  pub passes_on : PassesOn g src link (became p (step (state_of p) e).state)

-- A router on the way can also forward packets of the source: the interface to its next hop is up and another than that
-- to the requester, the source isn't the router itself, and it has room for two facts.
pub record CanCarry (src : ℕ) (p : Place) : Type 0 where
  pub settled : IsSettled (state_of p)
  pub configured : up_iface p < iface_count (state_of p)
  pub is_up : is_up (state_of p) (up_iface p) ≡ true
  pub foreign : is_own (state_of p) src ≡ false
  pub room : passes_limit (state_of p) 2 ≡ false
  pub on : (p.down == up_iface p) ≡ false

-- All routers of a way but the last.
abbrev pub carriers : List Place → List Place
carriers [] = []
carriers (p ∷ []) = []
carriers (p ∷ q ∷ ps) = p ∷ carriers (q ∷ ps)

-- the link between the last and the one before it; `link` is the one on which the Join comes to the first
abbrev pub root_link : ℕ → List Place → ℕ
root_link link [] = link
root_link link (p ∷ []) = link
root_link link (p ∷ q ∷ ps) = root_link p.next_link (q ∷ ps)

-- After the event and deliveries with nothing in between, every router of the way took the Join(*,G). After that, as
-- long as the routers below the last are unchanged, every packet of (S,G) on the link below the last comes down to the
-- host's link by some deliveries.
pub record IsServedBy (n : Network) (g rp src link : ℕ) (p : Place) (e : Event) (ps : List Place) : Type 0 where
  pub joins : List Move
  pub deliveries : AreDeliveries joins
  pub one_each : length joins ≡ length ps
  pub taken : AllByRecursion (HasTaken (network_ran n (At p.router e ∷ joins)).1 g rp) ps
  pub served : (m : Network)
      → (AllByRecursion (λ (q : Place). station_at m q.router ≡ station_at (network_ran n (At p.router e ∷ joins)).1 q.router) (p ∷ carriers ps))
      → (payload : List ℕ) (lives : ℕ) → 0 < lives
      → IsCarried m g src (root_link p.next_link ps) payload (lives + length (p ∷ carriers ps))
      → IsFlowed m g src link payload lives (p ∷ carriers ps)

-- The router that a group comes to be wanted at is served, a way of any length from the RP that has no router twice, by
-- deliveries with nothing in between.
abbrev pub WhoAsksIsServed : Type 0
WhoAsksIsServed = (n : Network) (g rp src link : ℕ) (p : Place) (e : Event) (ps : List Place)
    → IsGroup g rp → Asks g rp src link p e
    → IsWay g rp (up_address p) (p.next).address.bits p.next_link ps → AllByRecursion (CanCarry src) (carriers ps)
    → StandIn n (p ∷ ps) → AreApart (p ∷ ps)
    → IsServedBy n g rp src link p e ps

-- ---- a host requests a group

-- A report of one record, by which a host wants the group from every source.
pub record IsRequest (g : ℕ) (records : List Record) : Type 0 where
  pub record_type : RecordType
  pub excluding : is_excluding record_type ≡ true
  pub is : records ≡ record { type = record_type; group = g; sources = [] } ∷ []

-- The router is the DR of the host's link, can join towards the RP, and can forward packets of the source to that link.
pub record CanServeHost (g rp src link : ℕ) (p : Place) : Type 0 where
  pub can_go_on : CanGoOn g p
  pub can_carry : CanCarry src p
  pub rp_known : rp_of (state_of p) g ≡ Some rp
  pub is_dr : is_dr (state_of p) p.down ≡ true
  pub down_configured : p.down < iface_count (state_of p)
  pub down_linked : slice_get (p.station).links p.down ≡ Some link

-- A host's report to its DR is an event by which the group comes to be wanted at the DR.
abbrev pub HostAsks : Type 0
HostAsks = (g rp src link : ℕ) (p : Place) (e : Event) (records : List Record)
    → IsRequest g records → done_as (happens (state_of p) e) ≡ Some (Accepted.Report (record { number = p.down }) records)
    → CanServeHost g rp src link p → Asks g rp src link p e
