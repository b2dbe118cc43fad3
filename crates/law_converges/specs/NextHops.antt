-- The next hop changes: whoever joins a group or a source joins it over its new next hop in that event, and this holds it
-- by one delivery (RFC 7761, 4.5.4 and 4.5.5).
use Rattle.std.{specs.{List.{AllByRecursion, Contains}, Prelude.{Bool, List, Option, Some, [], false, length, option_map, slice_get, true, ℕ, ◌&&◌, ◌+◌, ◌<◌, ◌∷◌, ◌≡◌}}}
use Rattle.pim_ip.{specs.Ipv4.{all_pim_routers, pim_packet_text}}
use Rattle.pim_types.{specs.declared.{config.IfaceId.IfaceId, event.Event.Event, outcome.Emission.Emission, path.{Hop.Hop, Path.Path}}}
use Rattle.pim_wire.{specs.{JoinPrunes.join_prune_text, declared.join_prune.Entry.Entry}}
use Rattle.pim_model.{specs.{declared.accepted.Accepted.Accepted, Cause.done_as, Full.is_full, Neighbours.{is_neighbour, nbr}, Network.{Deliver, Move, Network, Station, event_of, frame_at, moved, network_ran, station_at}, State.{State, my_address}, Step.step, Tables.{same_hop, same_iface}, Upstream.{is_pruned_with_star}, Writing.on_link}}
use Rattle.law_streams.{specs.{Copies.happens, Joins.{HoldsTree, IsWritable, is_time, join_to, join_value}, InTimeJoins.{IsJoin, IsRp, Join, Listens, Pair, entry_of, frame_of, is_wanted, join_key, prunes_of, rpf_of, way_to}}}

-- ---- at one router

-- the interface of a path
abbrev pub iface_of : Option Path → Option IfaceId
iface_of path = option_map (λ (p : Path). p.iface) path

-- The way to the RP, or to the source, is the one that it was: over the same interface, and to the same next hop, if it is
-- a neighbour. Then RPF' changes by an Assert alone.
abbrev pub is_same_way : Join → State → State → ℕ → Bool
is_same_way x s t g =
    same_iface (iface_of (way_to x s g)) (iface_of (way_to x t g))
    && same_hop (nbr s (way_to x s g)) (nbr t (way_to x t g))

-- What is joined before a change is joined after it, and RPF' is another neighbour, over another interface or another next
-- hop.
pub record TurnsTo (x : Join) (s t : State) (g : ℕ) (hop : Hop) : Type 0 where
  pub wanted_before : is_wanted x s g ≡ true
  pub wanted : is_wanted x t g ≡ true
  pub rp_known : IsRp x t g
  pub upstream : rpf_of x t g ≡ Some hop
  pub another : same_hop (rpf_of x s g) (rpf_of x t g) ≡ false
  pub moved : is_same_way x s t g ≡ false

-- The emissions have a Join to the neighbour. A Join(*,G) prunes only sources that are to be pruned with it.
pub record SendsTo (x : Join) (t : State) (g : ℕ) (hop : Hop) (sent : List Emission) : Type 0 where
  pub pruned : List ℕ
  pub to_prune : AllByRecursion (λ src. is_pruned_with_star t g src ≡ true) pruned
  pub is_sent : Contains sent (join_to t hop g (entry_of x) (prunes_of pruned))

-- An event by which a router comes to join over another next hop sends the Join to it at once.
abbrev pub JoinFollowsNextHop : Type 0
JoinFollowsNextHop = (x : Join) (s : State) (e : Event) (a : Accepted) (g : ℕ) (hop : Hop)
    → done_as (happens s e) ≡ Some a → is_time a ≡ false → TurnsTo x s (step s e).state g hop
    → SendsTo x (step s e).state g hop (step s e).emissions

-- a Prune to a neighbour of the router, on the link to it
unfoldable pub prune_to : State → Hop → ℕ → Entry → Emission
prune_to t hop g pruned =
    on_link hop.iface.number
    (pim_packet_text 1 (my_address t hop.iface.number) all_pim_routers (join_prune_text hop.address.bits g [] (pruned ∷ [])))

-- The same event sends a Prune to the next hop that it was, if that still is a neighbour.
abbrev pub OldNextHopIsPruned : Type 0
OldNextHopIsPruned = (x : Join) (s : State) (e : Event) (a : Accepted) (g : ℕ) (hop old : Hop)
    → done_as (happens s e) ≡ Some a → is_time a ≡ false → TurnsTo x s (step s e).state g hop
    → rpf_of x s g ≡ Some old → is_neighbour (step s e).state old.iface.number old.address.bits ≡ true
    → Contains (step s e).emissions (prune_to (step s e).state old g (entry_of x))

-- ---- in a network

-- the move is an event by which the lower one of a pair comes to join over the upper one
pub record TurnsBy (x : Join) (g : ℕ) (c : Pair) (n : Network) (m : Move) : Type 0 where
  pub station : Station
  pub there : station_at n c.lower ≡ Some station
  pub event : Event
  pub is : event_of n m ≡ Some (c.lower, event)
  pub accepted : Accepted
  pub taken : done_as (happens station.state event) ≡ Some accepted
  pub timeless : is_time accepted ≡ false
  pub turns : TurnsTo x station.state (step station.state event).state g c.hop
  pub own : my_address (step station.state event).state (c.hop).iface.number ≡ c.from
  pub linked : slice_get station.links (c.hop).iface.number ≡ Some c.link

-- a router holds what is joined on the interface to the link for 210 s from its present time, and nobody is pruning it
pub record HoldsNow (x : Join) (g : ℕ) (c : Pair) (st : Station) (n : Network) : Type 0 where
  pub state : State
  pub there : station_at n c.upper ≡ Some (record st { state = state })
  pub holds : HoldsTree state (join_key x c.down g) (Some ((st.state).present + 210000))

-- the upper one can take a Join that prunes these sources: it listens, has room, and the Join can be read
pub record CanTakeOver (x : Join) (g : ℕ) (c : Pair) (pruned : List ℕ) (st : Station) : Type 0 where
  pub listens : Listens x g c st
  pub writable : IsWritable c.from (c.hop).address.bits g (entry_of x) (prunes_of pruned)
  pub room : is_full st.state (Accepted.JoinPruneToMe (record { number = c.down })
      (join_value (c.hop).address.bits g (entry_of x) (prunes_of pruned))) ≡ false

-- The Join is on the link after the move, in a frame that wasn't there before. Whatever moves come next, its delivery
-- to the upper one leaves that holding what is joined.
pub record IsOnItsWay (x : Join) (g : ℕ) (c : Pair) (n n' : Network) : Type 0 where
  pub pruned : List ℕ
  pub number : ℕ
  pub later : length n.frames < number
  pub framed : frame_at n' number ≡ Some (frame_of x g c pruned)
  pub takes : (waits : List Move) (draw : ℕ) (st : Station) → station_at (network_ran n' waits).1 c.upper ≡ Some st
      → CanTakeOver x g c pruned st
      → HoldsNow x g c st (moved (network_ran n' waits).1 (Deliver c.upper c.down number draw)).1

-- A router that turns to another next hop is served by it after one delivery.
abbrev pub NewNextHopTakesOver : Type 0
NewNextHopTakesOver = (x : Join) (g : ℕ) (c : Pair) (n : Network) (m : Move) → IsJoin x g → TurnsBy x g c n m
    → IsOnItsWay x g c n (moved n m).1
