-- Each packet of a source comes down a way exactly once: each router of it takes each frame of the link above once, and puts one copy
-- of it on the link below (RFC 7761, 4.2).
use Rattle.std.{specs.{List.{AllByRecursion, Contains}, Prelude.{List, Ok, Some, [], false, length, slice_get, true, ℕ, ◌*◌, ◌+◌, ◌<◌, ◌==◌, ◌∷◌, ◌≡◌, ◌≤◌, ◌⊎◌}}}
use Rattle.pim_ip.{specs.Ipv4.{Packet, copy_text, ipv4_reading, is_link_local, is_multicast, protocol_igmp}}
use Rattle.pim_types.{specs.declared.event.Event.Event}
use Rattle.pim_model.{specs.{Cause.{done_as, packet_in}, Full.source_is_full, Network.{Deliver, Move, Network, Station, event_of, frame_at, moved, network_ran, station_at}, Sets.spt_bit, State.{State, iface_count, is_own, is_up}, Unicast.is_rpf_interface, Writing.on_link}}
use Rattle.law_streams.{specs.{Copies.{copies_at, happens}, Flows.IsCarried as Carried, InTimeJoins.time_at, Passing.{Passes, Receiver, Tree}, Roots.{ArrivesFor, IsBrought, OnTree}, Served.{IsSourceJoined, IsSourceMember, OnShortestPath, renewed}, StreamRoots.Sends, Turning.may_turn}}
use Rattle.law_converges.{specs.{Carried.{Arrivals, Carries, EachMove, IsSentBy, Traffic}, LinkDr.{IsOne, Member}, Past.{ArePast, HoldsPast, HoldsPastOn}}}

-- ---- a way

-- a router of a way, with its interface on the link above, where the packets come in, and the one on the link below
pub record Forwarder : Type 0 where
  pub self : Member
  pub above : ℕ
  pub down : ℕ
  pub below : ℕ

-- the router at the top of a way, at which the packets come, with its interface on the link below: the way is of the group's tree, or of
-- the source's own
pub record Root : Type 0 where
  pub tree : Tree
  pub router : ℕ
  pub down : ℕ
  pub below : ℕ

-- a router has one interface on a link
pub record HasOneOn (down link : ℕ) (st : Station) : Type 0 where
  pub linked : slice_get st.links down ≡ Some link
  pub single : (i : ℕ) → slice_get st.links i ≡ Some link → i ≡ down

-- a router on the link joined the group, or on the source's own tree the source
abbrev pub SendsOn : Tree → State → (g src down : ℕ) → Type 0
SendsOn Tree.Shared s g src down = Sends s g src down
SendsOn Tree.Source s g src down = IsSourceJoined s g src down

-- the root sends what comes to it on the link below
pub record SendsDown (g src : ℕ) (root : Root) (n : Network) : Type 0 where
  pub station : Station
  pub there : station_at n root.router ≡ Some station
  pub sends : SendsOn root.tree station.state g src root.down
  pub below : HasOneOn root.down root.below station

-- The source's packets come in on the way to the source, and SPTbit is set, or is with the first of them; they go out to a host that asked
-- for the source, or to a router that joined it.
pub record PassesSource (s : State) (g src up down : ℕ) : Type 0 where
  pub configured : up < iface_count s
  pub is_up : is_up s up ≡ true
  pub foreign : is_own s src ≡ false
  pub way : is_rpf_interface s src up ≡ true
  pub turns : (spt_bit s g src ≡ true) ⊎ (may_turn s g src up ≡ true)
  pub wanted : IsSourceMember s g src down ⊎ IsSourceJoined s g src down
  pub room : source_is_full s g src ≡ false
  pub on : (down == up) ≡ false

-- a router passes a source's packets from an interface to another: as a stream, or on the source's own tree
pub data PassesOn (s : State) (g src up down : ℕ) : Type 0 where
  Stream : (tree : Tree) (by : Receiver) → Passes tree by s g src up down → PassesOn s g src up down
  OfSource : PassesSource s g src up down → PassesOn s g src up down

-- a router forwards each packet of the source from the link above to the link below
pub record Forwards (g src : ℕ) (f : Forwarder) (n : Network) : Type 0 where
  pub station : Station
  pub there : station_at n (f.self).router ≡ Some station
  pub passes : PassesOn station.state g src (f.self).iface f.down
  pub above : slice_get station.links (f.self).iface ≡ Some f.above
  pub below : HasOneOn f.down f.below station

-- who sends on the last link of a way, whose routers are listed from the last one up
abbrev pub sender_of : Root → List Forwarder → ℕ
sender_of root [] = root.router
sender_of root (f ∷ fs) = (f.self).router

-- each router of a way forwards to a link what another one sends on the link above, up to the root
abbrev pub AreForwarding : (g src : ℕ) → Root → (link : ℕ) → List Forwarder → Network → Type 0
AreForwarding g src root link [] n = (root.below ≡ link) × SendsDown g src root n
AreForwarding g src root link (f ∷ fs) n =
    (f.below ≡ link) × Forwards g src f n × ((sender_of root fs == (f.self).router) ≡ false) × AreForwarding g src root f.above fs n

-- the link above a router, of whose routers it is one, carries what is sent on it; to begin with no frame has come that wasn't sent
pub record HearsAll (d : ℕ) (started : ℕ → ℕ) (t : Traffic) (came : Arrivals) (n : Network) (ms : List Move) (f : Forwarder) : Type 0 where
  pub members : List Member
  pub among : IsOne members f.self
  pub carries : Carries d started t f.above members came n ms
  pub behind : came (f.self).router (f.self).iface ≤ length n.frames

-- ---- what comes of a packet

-- one of the moves does something
abbrev pub SomeMove : (Network → Move → Type 0) → Network → List Move → Type 0
SomeMove P n [] = ⊥
SomeMove P n (m ∷ ms) = P n m ⊎ SomeMove P (moved n m).1 ms

-- the move brings a packet to a router, and a new frame on a link is a copy of it
pub record IsCopied (r link number : ℕ) (n : Network) (m : Move) : Type 0 where
  pub event : Event
  pub is : event_of n m ≡ Some (r, event)
  pub station : Station
  pub at : station_at n r ≡ Some station
  pub packet : Packet
  pub brought : packet_in (done_as (happens station.state event)) ≡ Some packet
  pub later : length n.frames < number
  pub framed : frame_at (moved n m).1 number ≡ Some (record { link = Some link; bytes = copy_text packet })

-- the move brings a frame to a router of a way from the link above, and the other frame is its copy on the link below
pub record IsPassedOn (f : Forwarder) (frame copy : ℕ) (n : Network) (m : Move) : Type 0 where
  pub draw : ℕ
  pub is : m ≡ Deliver (f.self).router (f.self).iface frame draw
  pub copied : IsCopied (f.self).router f.below copy n m

-- a frame on the last link comes of another one on the first link, router by router
abbrev pub ComesOf : List Forwarder → (frame copy : ℕ) → Network → List Move → Type 0
ComesOf [] frame copy n ms = frame ≡ copy
ComesOf (f ∷ fs) frame copy n ms = (k : ℕ) × ComesOf fs frame k n ms × SomeMove (IsPassedOn f k copy) n ms

-- a frame on the last link comes of the packet that a move brings to the root
pub record ComesDown (root : Root) (fs : List Forwarder) (number : ℕ) (n : Network) (m : Move) (ms : List Move) : Type 0 where
  pub frame : ℕ
  pub sent : IsCopied root.router root.below frame n m
  pub comes : ComesOf fs frame number n (m ∷ ms)

-- exactly one frame on the last link does, with the packet's payload and this TTL, and it was sent by this moment
pub record ComesOnce (g src link : ℕ) (payload : List ℕ) (lives by : ℕ) (t : Traffic) (root : Root) (fs : List Forwarder) (n : Network)
    (m : Move) (ms : List Move) : Type 0 where
  pub number : ℕ
  pub comes : ComesDown root fs number n m ms
  pub only : (k : ℕ) → ComesDown root fs k n m ms → k ≡ number
  pub carried : Carried (network_ran (moved n m).1 ms).1 g src link payload lives
  pub its : (carried.on_link).number ≡ number
  pub soon : t.sent number ≤ by

-- ---- the law

-- something holds of each move, and of the moves that follow it
abbrev pub EachMoveOn : (Network → Move → List Move → Type 0) → Network → List Move → Type 0
EachMoveOn P n [] = Unit {0}
EachMoveOn P n (m ∷ ms) = P n m ms × EachMoveOn P (moved n m).1 ms

-- on the source's own tree the packet comes to the root on the way to the source, with SPTbit set
abbrev pub IsOfTree : Tree → (s : State) (e : Event) (p : Packet) (j : ℕ) → ArrivesFor s e p j → Type 0
IsOfTree Tree.Shared s e p j a = Unit {0}
IsOfTree Tree.Source s e p j (OnTree i is on off) = OnShortestPath (renewed s p.destination p.source i.number) p.destination p.source i.number
IsOfTree Tree.Source s e p j a = ⊥

-- if a move brings a packet of the source to the root, on a tree or in a Register, and for the source's own tree on that, it comes down
-- exactly once, within d for each router of the way, if the moves go so far
pub record IsServedOnce (g src d : ℕ) (started : ℕ → ℕ) (t : Traffic) (root : Root) (link : ℕ) (fs : List Forwarder) (n : Network) (m : Move)
    (ms : List Move) : Type 0 where
  pub served : (e : Event) (before after : Station) (payload : List ℕ) (lives : ℕ) → event_of n m ≡ Some (root.router, e)
      → station_at n root.router ≡ Some before → station_at (moved n m).1 root.router ≡ Some after → 0 < lives
      → (b : IsBrought before.state e g src root.down payload (lives + length fs)) → IsOfTree root.tree before.state e b.packet root.down b.comes
      → ArePast started (time_at started root.router after + length fs * d) (network_ran (moved n m).1 ms).1
      → ComesOnce g src link payload lives (time_at started root.router after + length fs * d) t root fs n m ms

-- so it is with each of the moves
abbrev pub AreServedOnce : (g src d : ℕ) → (ℕ → ℕ) → Traffic → Root → (link : ℕ) → List Forwarder → Network → List Move → Type 0
AreServedOnce g src d started t root link fs n ms = EachMoveOn (IsServedOnce g src d started t root link fs) n ms

-- From when the routers of a way of any length forward the source's packets, each packet that is brought to the root is on the last
-- link in exactly one frame that comes of it.
abbrev pub EachPacketComesOnce : Type 0
EachPacketComesOnce = (g src d bound : ℕ) (started : ℕ → ℕ) (t : Traffic) (came : Arrivals) (root : Root) (link : ℕ) (fs : List Forwarder)
    (n : Network) (ms : List Move) → is_multicast g ≡ true → is_link_local g ≡ false → EachMove (IsSentBy started t) n ms
    → AllByRecursion (HearsAll d started t came n ms) fs → HoldsPast started bound (AreForwarding g src root link fs) n ms
    → HoldsPastOn started bound (AreServedOnce g src d started t root link fs) n ms

-- A frame on the last link comes of one frame alone: each packet has a frame of its own there.
abbrev pub FrameComesOfOne : Type 0
FrameComesOfOne = (fs : List Forwarder) (first second frame : ℕ) (n : Network) (ms : List Move) → ComesOf fs first frame n ms
    → ComesOf fs second frame n ms → first ≡ second

-- ---- nothing else comes

-- bytes that are read as data of the source
pub record IsOfSource (g src : ℕ) (bytes : List ℕ) : Type 0 where
  pub packet : Packet
  pub reads : ipv4_reading bytes ≡ Ok packet
  pub is_data : (packet.protocol == protocol_igmp) ≡ false
  pub group : packet.destination ≡ g
  pub source : packet.source ≡ src

-- no other router sends a packet of the source on a link by the move
abbrev pub IsAlone : (g src r link : ℕ) → Network → Move → Type 0
IsAlone g src r link n m = (q j : ℕ) (e : Event) (st : Station) (text : List ℕ) → event_of n m ≡ Some (q, e) → station_at n q ≡ Some st
    → slice_get st.links j ≡ Some link → IsOfSource g src text → Contains (copies_at st.state e) (on_link j text) → q ≡ r

-- so it is on each link of a way
abbrev pub AreAlone : (g src : ℕ) → Root → (link : ℕ) → List Forwarder → Network → Move → Type 0
AreAlone g src root link [] n m = IsAlone g src root.router link n m
AreAlone g src root link (f ∷ fs) n m = IsAlone g src (f.self).router link n m × AreAlone g src root f.above fs n m

-- the move delivers a frame to a router of a way from the link above
pub record IsFromAbove (f : Forwarder) (m : Move) : Type 0 where
  pub frame : ℕ
  pub draw : ℕ
  pub is : m ≡ Deliver (f.self).router (f.self).iface frame draw

-- what makes a router of a way send a packet of the source on the link below is a frame from the link above
abbrev pub TakesFromAbove : (g src : ℕ) → Network → Move → Forwarder → Type 0
TakesFromAbove g src n m f = (e : Event) (st : Station) (text : List ℕ) → event_of n m ≡ Some ((f.self).router, e)
    → station_at n (f.self).router ≡ Some st → IsOfSource g src text → Contains (copies_at st.state e) (on_link f.down text) → IsFromAbove f m

-- so it is by each move from the bound on
abbrev pub AreAlonePast : (g src : ℕ) → (ℕ → ℕ) → (bound : ℕ) → Root → (link : ℕ) → List Forwarder → Network → Move → Type 0
AreAlonePast g src started bound root link fs n m =
    ArePast started bound n → AreAlone g src root link fs n m × AllByRecursion (TakesFromAbove g src n m) fs

-- a frame on the last link comes, router by router, of a packet that one of the moves brings to the root, or of a frame of before
abbrev pub CameDown : Root → List Forwarder → (number : ℕ) → Network → List Move → Type 0
CameDown root [] number n ms = SomeMove (IsCopied root.router root.below number) n ms
CameDown root (f ∷ fs) number n ms =
    (k : ℕ) × SomeMove (IsPassedOn f k number) n ms × ((k ≤ length n.frames) ⊎ CameDown root fs k n ms)

-- so does each frame on the last link that the moves bring there and that holds a packet of the source
abbrev pub AllCameDown : (g src : ℕ) → Root → (link : ℕ) → List Forwarder → Network → List Move → Type 0
AllCameDown g src root link fs n ms = (number : ℕ) (bytes : List ℕ) → length n.frames < number
    → frame_at (network_ran n ms).1 number ≡ Some (record { link = Some link; bytes = bytes }) → IsOfSource g src bytes
    → CameDown root fs number n ms

-- From when no other router sends them on the links of a way, nothing of the source's packets is on the last link but what comes
-- down the way.
abbrev pub NothingElseComes : Type 0
NothingElseComes = (g src bound : ℕ) (started : ℕ → ℕ) (root : Root) (link : ℕ) (fs : List Forwarder) (n : Network) (ms : List Move)
    → is_link_local g ≡ false → HoldsPast started bound (AreForwarding g src root link fs) n ms
    → EachMove (AreAlonePast g src started bound root link fs) n ms → HoldsPastOn started bound (AllCameDown g src root link fs) n ms
