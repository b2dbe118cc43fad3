-- From a host's report to its stream: each router begins at a move of its own, and what nothing ended goes on.
use Rattle.std.{specs.Prelude.{List, Some, [], false, length, slice_get, ℕ, ◌+◌, ◌++◌, ◌<◌, ◌∷◌, ◌≡◌}}
use Rattle.igmp_wire.{specs.Values.Record}
use Rattle.pim_types.{specs.declared.event.Event.Event}
use Rattle.pim_model.{specs.{declared.accepted.Accepted.Accepted, Cause.done_as, Network.{At, Deliver, Move, Network, frame_at, moved, network_ran, station_at}, Sets.{assert_source, is_loser}, State.State, Step.step}}
use Rattle.law_streams.{specs.{Networks.events_in, Copies.happens, Flows.{IsCarried, IsFlowed, top_link}, Roots.IsBrought, HostsServed.{CanServeHost, IsRequest, became}, Ways.{AreApart, CanTake, IsGroup, Place, state_of, up_iface}, Climbing.{CanStream, delivered, join_frame}, Passing.{NoneEndsPassing, Receiver, Tree}, StreamRoots.{NoneEndsSending, Sends}, Streams.PassesAt}}
use Rattle.law_settled.{specs.Ready.IsSettled}

-- A host's report of the group to its DR, where the group is new: after it the DR passes the stream to the host's link.
abbrev pub HostBeginsStream : Type 0
HostBeginsStream = (g rp src link : ℕ) (p : Place) (e : Event) (records : List Record)
    → IsRequest g records
    → done_as (happens (state_of p) e) ≡ Some (Accepted.Report (record { number = p.down }) records)
    → CanServeHost g rp src link p
    → PassesAt Tree.Shared Receiver.Host g src link (became p (step (state_of p) e).state)

-- The last router of a way, after the Join(*,G) that it takes, sends what comes to it on the Join's link.
abbrev pub JoinBeginsSending : Type 0
JoinBeginsSending = (g rp from to link src k : ℕ) (p : Place) (m : Network) → IsGroup g rp
    → CanTake g rp from to link p → IsSettled (state_of p) → is_loser (assert_source (state_of p) g src p.down) ≡ false
    → station_at m p.router ≡ Some p.station → frame_at m k ≡ Some (join_frame g rp from to link)
    → (state : _) → station_at (delivered m p k) p.router ≡ Some (became p state).station
    → Sends state g src p.down

-- The move at which a router of a way begins to pass the stream to a link. The network and the place are those just
-- before the move.
pub data BeginsAt (g rp src link : ℕ) (m : Network) (p : Place) : Receiver → Move → Type 0 where
  ByReport : (e : Event) (records : List Record) → IsRequest g records
      → done_as (happens (state_of p) e) ≡ Some (Accepted.Report (record { number = p.down }) records)
      → CanServeHost g rp src link p → BeginsAt g rp src link m p Receiver.Host (At p.router e)
  ByJoin : (from to k : ℕ) → CanTake g rp from to link p → CanStream g src p
      → frame_at m k ≡ Some (join_frame g rp from to link)
      → slice_get (p.station).links (up_iface p) ≡ Some p.next_link
      → BeginsAt g rp src link m p Receiver.Router (Deliver p.router p.down k p.draw)

-- A router begins at one of the moves, and no event that comes to it later ends the stream there.
pub record HasBegun (g rp src link : ℕ) (n : Network) (ms : List Move) (by : Receiver) (p : Place) : Type 0 where
  pub before : List Move
  pub move : Move
  pub after : List Move
  pub whole : ms ≡ before ++ move ∷ after
  pub stands : station_at (network_ran n before).1 p.router ≡ Some p.station
  pub begins : BeginsAt g rp src link (network_ran n before).1 p by move
  pub goes_on : (state : State)
      → station_at (moved (network_ran n before).1 move).1 p.router ≡ Some (became p state).station
      → NoneEndsPassing Tree.Shared by state (events_in p.router (moved (network_ran n before).1 move).1 after)
      g src (up_iface p) p.down

-- Each router of a way has begun, from the link of the requester up to that of the last router's next hop; the routers
-- may begin in any order.
abbrev pub HaveBegun : (ℕ → Receiver) → (g rp src link : ℕ) → Network → List Move → List Place → Type 0
HaveBegun by g rp src link n ms [] = Unit {0}
HaveBegun by g rp src link n ms (p ∷ ps) =
    HasBegun g rp src link n ms (by p.router) p × HaveBegun by g rp src p.next_link n ms ps

-- Where each router of a way has begun, each packet of the source on the link above comes down to the requester, by one
-- delivery for each router.
abbrev pub BegunStreamIsServed : Type 0
BegunStreamIsServed = (by : ℕ → Receiver) (n : Network) (ms : List Move) (g rp src link lives : ℕ) (payload : List ℕ)
    (ps : List Place)
    → IsGroup g rp → 0 < lives → HaveBegun by g rp src link n ms ps → AreApart ps
    → IsCarried (network_ran n ms).1 g src (top_link link ps) payload (lives + length ps)
    → IsFlowed (network_ran n ms).1 g src link payload lives ps

-- The last router of a way takes the Join(*,G) at one of the moves, and nothing later stops it from sending.
pub record HasTakenAt (g rp src link : ℕ) (n : Network) (ms : List Move) (p : Place) : Type 0 where
  pub before : List Move
  pub number : ℕ
  pub after : List Move
  pub whole : ms ≡ before ++ Deliver p.router p.down number p.draw ∷ after
  pub stands : station_at (network_ran n before).1 p.router ≡ Some p.station
  pub from : ℕ
  pub to : ℕ
  pub takes : CanTake g rp from to link p
  pub settled : IsSettled (state_of p)
  pub unlost : is_loser (assert_source (state_of p) g src p.down) ≡ false
  pub there : frame_at (network_ran n before).1 number ≡ Some (join_frame g rp from to link)
  pub goes_on : (state : State)
      → station_at (delivered (network_ran n before).1 p number) p.router ≡ Some (became p state).station
      → NoneEndsSending state (events_in p.router (delivered (network_ran n before).1 p number) after) g src p.down

-- Where each router of a way has begun, each packet that is brought to the last router, on a tree or in a Register,
-- comes down to the requester.
abbrev pub EachOfBegunStreamIsServed : Type 0
EachOfBegunStreamIsServed = (by : ℕ → Receiver) (n : Network) (ms : List Move) (g rp src link lives : ℕ)
    (payload : List ℕ) (root : Place) (ps : List Place) (d : Event) (state : State)
    → IsGroup g rp → 0 < lives → HaveBegun by g rp src link n ms ps
    → HasTakenAt g rp src (top_link link ps) n ms root → AreApart (root ∷ ps)
    → station_at (network_ran n ms).1 root.router ≡ Some (became root state).station
    → IsBrought state d g src root.down payload (lives + length ps)
    → IsFlowed (moved (network_ran n ms).1 (At root.router d)).1 g src link payload lives ps
