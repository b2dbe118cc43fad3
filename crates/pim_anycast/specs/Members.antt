-- Each router of a set knows the sources that another of them hears.
use Rattle.std.{specs.{List.Contains, Option.option_map_or, Prelude.{Bool, List, None, Ok, Option, Some, [], ◌++◌, ◌∷◌, false, map, nat_le, set, true, length, ℕ, ◌+◌, ◌<◌, ◌≡◌, ◌≤◌, ◌⊎◌}}}
use Rattle.pim_ip.{specs.{Ipv4.{Packet, ipv4_reading, is_link_local, is_multicast, is_unicast, packet_limit}, declared.addr.Addr.Addr}}
use Rattle.pim_types.{specs.{Keys.source_key, declared.{config.IfaceId.IfaceId, event.{Event.Event, EventKind.EventKind}, fact.SourceRow.SourceRow, outcome.Outcome.Outcome}}}
use Rattle.pim_wire.{specs.{Messages.pim_reading, RegisterParts.{registered_group, registered_source}, Values.Register, declared.view.PimView.PimView}}
use Rattle.pim_model.{specs.{declared.accepted.Accepted.Accepted, Cause.done_as, Full.source_is_full, Network.{At, DeliverUnicast, Move, Network, Sent, Station, event_of, frame_at, sent_by, station_at}, Registers.{is_spt_wanted, keepalive_period}, Sets.is_kept_alive, State.State, Step.step, Tables.row_at, Unicast.is_rp}}
use Rattle.law_settled.{specs.Ready.IsSettled}
use Rattle.law_streams.{specs.{Copies.happens, InTimeJoins.time_at}}
use Rattle.pim_anycast.{specs.{Announced.{is_announced, is_due, is_local}, Joined.joined_step, Laws.{AreTogether, sent_text}, Passed.{is_copied, register_in}, Sets.{sent_to, set_for}, declared.set.RpSet.RpSet}}

-- ---- what a router knows

-- the keepalive timer of a source's row runs until a timestamp at least
abbrev pub lasts_until : ℕ → Option SourceRow → Bool
lasts_until end o = option_map_or (λ (r : SourceRow). option_map_or (nat_le end) r.keepalive false) o false

-- the source is known until a timestamp at least
abbrev pub knows_until : ℕ → State → ℕ → ℕ → Bool
knows_until end s g src = lasts_until end (row_at s.sources (source_key 0 g src))

-- Until a timestamp that is at most Keepalive_Period ahead the source is known, or that time is over.
pub record KnowsUntil (end : ℕ) (s : State) (g src : ℕ) : Type 0 where
  pub near : end ≤ s.present + keepalive_period
  pub known : (knows_until end s g src ≡ true) ⊎ (end ≤ s.present)

-- A Register to RP(G) that the router takes makes its source known for Keepalive_Period, where the router leaves the shared
-- tree (SwitchToSptDesired).
abbrev pub RegisterIsKnown : Type 0
RegisterIsKnown =
    (s : State) (e : Event) (p : Packet) (r : Register) → done_as (happens s e) ≡ Some (Accepted.Register p r)
    → is_rp s (registered_group r) p.destination ≡ true → is_spt_wanted s ≡ true
    → KnowsUntil (s.present + keepalive_period) (step s e).state (registered_group r) (registered_source r)

-- No event makes a router forget a source before its keepalive timer expires.
abbrev pub KnownStays : Type 0
KnownStays =
    (s : State) (e : Event) (end g src : ℕ) → IsSettled s → KnowsUntil end s g src → KnowsUntil end (step s e).state g src

-- ---- a router of a set is sent a Register by another

-- The second of two routers can take a Register of the source from the first: they are of one set, which shares RP(G) there;
-- the group isn't link-local, the router leaves the shared tree, and it knows the source or has room for it.
pub record CanLearn (sets : List RpSet) (t : State) (from to : RpSet) (g src : ℕ) : Type 0 where
  pub together : AreTogether t from to
  pub for_it : set_for sets t.ranges g ≡ Some to
  pub forwarded : is_link_local g ≡ false
  pub wanted : is_spt_wanted t ≡ true
  pub room : source_is_full t g src ≡ false

-- A message that is a Register of the source, and fits a packet.
pub record IsRegisterOf (message : List ℕ) (g src : ℕ) : Type 0 where
  pub register : Register
  pub reads : pim_reading message ≡ Ok (PimView.Register register)
  pub group : registered_group register ≡ g
  pub source : registered_source register ≡ src
  pub fits : 20 + length message ≤ packet_limit

-- A router that is given a Register by another of its set knows the source then.
abbrev pub MemberLearns : Type 0
MemberLearns =
    (sets : List RpSet) (t : State) (from to : RpSet) (g src time_to_live draw : ℕ) (message : List ℕ)
    → CanLearn sets t from to g src → IsRegisterOf message g src
    → (let e : Event = record { draw = draw; kind = EventKind.Unicast (sent_text from to time_to_live message) } in
    KnowsUntil (t.present + keepalive_period) (joined_step sets t e).1 g src)

-- ---- a router of a set hears of a source

-- A Register of the source comes from outside the set.
pub record HearsRegister (sets : List RpSet) (s : State) (e : Event) (set : RpSet) (g src : ℕ) : Type 0 where
  pub bytes : List ℕ
  pub packet : Packet
  pub register : Register
  pub is : e.kind ≡ EventKind.Unicast bytes
  pub reads : ipv4_reading bytes ≡ Ok packet
  pub brings : register_in packet ≡ Some register
  pub group : registered_group register ≡ g
  pub source : registered_source register ≡ src
  pub for_it : set_for sets s.ranges g ≡ Some set
  pub copied : is_copied set packet ≡ true

-- after an event the source is local, and the set shares RP(G)
pub record HasLocal (sets : List RpSet) (t : State) (set : RpSet) (g src : ℕ) : Type 0 where
  pub host : is_unicast src ≡ true
  pub multicast : is_multicast g ≡ true
  pub here : is_local t g src ≡ true
  pub for_it : set_for sets t.ranges g ≡ Some set

-- The first packet of the source comes on the router's own link.
pub record HearsPacket (sets : List RpSet) (s : State) (e : Event) (set : RpSet) (g src : ℕ) : Type 0 where
  pub iface : IfaceId
  pub bytes : List ℕ
  pub packet : Packet
  pub is : e.kind ≡ EventKind.Frame iface bytes
  pub reads : ipv4_reading bytes ≡ Ok packet
  pub group : packet.destination ≡ g
  pub source : packet.source ≡ src
  pub new : is_announced sets s.ranges (is_local s g src) g ≡ false
  pub has : HasLocal sets (joined_step sets s e).1 set g src

-- Time passes, the source is local, and announcements are due, as they are once in 60 s.
pub record HearsStill (sets : List RpSet) (s : State) (e : Event) (set : RpSet) (g src : ℕ) : Type 0 where
  pub moment : ℕ
  pub is : e.kind ≡ EventKind.Advance moment
  pub due : is_due s.present (joined_step sets s e).1.present ≡ true
  pub has : HasLocal sets (joined_step sets s e).1 set g src

-- a router of the set hears of the source by an event
pub data Hears (sets : List RpSet) (s : State) (e : Event) (set : RpSet) (g src : ℕ) : Type 0 where
  ByRegister : HearsRegister sets s e set g src → Hears sets s e set g src
  ByPacket : HearsPacket sets s e set g src → Hears sets s e set g src
  ByTime : HearsStill sets s e set g src → Hears sets s e set g src

-- A Register of the source leaves to each of the others.
pub record TellsOthers (sets : List RpSet) (s : State) (e : Event) (set : RpSet) (g src : ℕ) : Type 0 where
  pub time_to_live : ℕ
  pub message : List ℕ
  pub is : IsRegisterOf message g src
  pub leaves : (other : Addr) → Contains set.others other
      → Contains (joined_step sets s e).0.emissions (sent_to set time_to_live message other)

-- Whoever hears of a source tells the others of it.
abbrev pub HeardIsTold : Type 0
HeardIsTold =
    (sets : List RpSet) (s : State) (e : Event) (set : RpSet) (g src : ℕ) → Hears sets s e set g src
    → TellsOthers sets s e set g src

-- ---- a network of routers behind their fronts; the sets of each are given by its number

-- an event at a router behind its front
unfoldable pub stepped_behind : (ℕ → List RpSet) → Network → ℕ → Event → Station → Network
stepped_behind sets n r e st =
    let a : Outcome × State = joined_step (sets r) st.state e in
    record {
      stations = set n.stations r (record st { state = a.1 });
      frames = n.frames ++ map (sent_by st.links) a.0.emissions;
    }

-- an event at a router, counted from 0; nothing where there is none
abbrev pub behind_at : (ℕ → List RpSet) → Network → ℕ × Event → Network
behind_at sets n e = option_map_or (stepped_behind sets n e.0 e.1) (station_at n e.0) n

-- the network after a move
unfoldable pub moved_behind : (ℕ → List RpSet) → Network → Move → Network
moved_behind sets n m = option_map_or (behind_at sets n) (event_of n m) n

-- before moves, and after each
abbrev pub AlwaysBehind : (ℕ → List RpSet) → (Network → Type 0) → Network → List Move → Type 0
AlwaysBehind sets P n [] = P n
AlwaysBehind sets P n (m ∷ ms) = P n × AlwaysBehind sets P (moved_behind sets n m) ms

-- ---- a frame from one router of a set to another comes in time

-- the frame has a PIM message from the first router to the second
pub record IsBetween (from to : RpSet) (g src : ℕ) (f : Sent) : Type 0 where
  pub time_to_live : ℕ
  pub message : List ℕ
  pub register : IsRegisterOf message g src
  pub is : f ≡ (let sent : Sent = record { link = None; bytes = sent_text from to time_to_live message } in sent)

-- The move delivers the frame of a number to a router, no sooner than it was sent, and the router can learn by it. When each
-- router started is given in a common time, in ms.
pub record IsTakenBy (sets : ℕ → List RpSet) (started : ℕ → ℕ) (b : ℕ) (from to : RpSet) (g src sent number : ℕ) (n : Network) (m : Move) : Type 0 where
  pub draw : ℕ
  pub is : m ≡ DeliverUnicast b number draw
  pub later : (st : Station) → station_at n b ≡ Some st → sent ≤ time_at started b st
  pub learns : (st : Station) → station_at n b ≡ Some st → CanLearn (sets b) st.state from to g src

-- a router's present isn't past a common time
abbrev pub IsNotPast : (ℕ → ℕ) → (r moment : ℕ) → Network → Type 0
IsNotPast started r moment n = (st : Station) → station_at n r ≡ Some st → time_at started r st ≤ moment

-- the frame is delivered before the router's present is past a common time, if the moves go so far
abbrev pub ComesBehind : (ℕ → List RpSet) → (ℕ → ℕ) → (b : ℕ) → (from to : RpSet) → (g src sent by number : ℕ) → Network → List Move → Type 0
ComesBehind sets started b from to g src sent by number n [] = Unit {0}
ComesBehind sets started b from to g src sent by number n (m ∷ ms) =
    IsTakenBy sets started b from to g src sent number n m
    ⊎ (IsNotPast started b by (moved_behind sets n m)
    × ComesBehind sets started b from to g src sent by number (moved_behind sets n m) ms)

-- between two common times the source's keepalive timer runs at the router
abbrev pub KnowsBetween : (ℕ → ℕ) → (b g src first last : ℕ) → Network → Type 0
KnowsBetween started b g src first last n =
    (st : Station) → station_at n b ≡ Some st → first < time_at started b st → time_at started b st < last
    → is_kept_alive st.state g src ≡ true

-- ---- the law

-- Where each frame between two routers of a set comes within d, the second knows a source from d after the first heard of
-- it until Keepalive_Period after that, whatever events come and however time passes. A DR registers a source, and a router
-- of the set announces one of its own links, at least once in 90 s: so where d is below 120 s each router of the set knows
-- a source without end, from d after another first heard of it.
abbrev pub MembersKnow : Type 0
MembersKnow =
    (sets : ℕ → List RpSet) (started : ℕ → ℕ) (n : Network) (a b : ℕ) (st other : Station) (e : Event) (from to : RpSet)
    (g src d : ℕ) (ms : List Move)
    → station_at n a ≡ Some st → Hears (sets a) st.state e from g src → Contains from.others to.own
    → (let after : Network = moved_behind sets n (At a e) in
    let heard : ℕ = (joined_step (sets a) st.state e).1.present + started a in
    station_at after b ≡ Some other → IsSettled other.state → time_at started b other ≤ heard + d
    → ((number : ℕ) (f : Sent) → length n.frames < number → frame_at after number ≡ Some f → IsBetween from to g src f
    → ComesBehind sets started b from to g src heard (heard + d) number after ms)
    → AlwaysBehind sets (KnowsBetween started b g src (heard + d) (heard + keepalive_period)) after ms)
