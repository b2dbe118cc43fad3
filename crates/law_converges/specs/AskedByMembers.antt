-- A source's packets are brought only to a link from which a way of Joins leads to a host that has asked for them: each router of the way
-- joined because somebody had asked it. The way's end may also be a router with the source on a link of its own, which may register it
-- (RFC 7761, 4.1.5, 4.5.4 and 4.5.5; RFC 3376, 4.1).
use Rattle.std.{specs.{List.{AllByRecursion, Contains}, Prelude.{Bool, List, None, Ok, Option, Some, [], false, length, slice_get, suc, true, zero, ℕ, ◌*◌, ◌+◌, ◌<◌, ◌∷◌, ◌≡◌, ◌≤◌, ◌⊎◌}}}
use Rattle.pim_ip.{specs.Ipv4.is_link_local}
use Rattle.pim_types.{specs.{Keys.key_of, declared.{config.{Config.Config, IfaceId.IfaceId}, event.Event.Event}}}
use Rattle.pim_wire.{specs.Values.JoinPrune}
use Rattle.pim_model.{specs.{declared.accepted.Accepted.Accepted, Cause.{asks_for, done_as, has_cause, past_after}, Downstream.{is_named, joined_keys}, Limits.{config_test, is_in_subnet}, Network.{Deliver, Move, Network, Station, event_of, moved, station_at}, State.{State, opening}, Step.{state_after, step}, Writing.on_link}}
use Rattle.law_streams.{specs.{Copies.{copies_at, happens}, InTimeJoins.time_at}}
use Rattle.law_converges.{specs.{Carried.{Arrivals, EachMove, IsCarried, IsSentBy, Traffic}, CarriedNetwork.{IsOneLan, Lan, number_of}, LeftLinks.{EachMoveAfter, IsBroughtTo, SomeBefore, lasts_within}, LinkDr.{IsOne, Member}, Past.ArePast, Settles.routers}}

-- ---- who asks

-- the packets of one source of a group, or without one those of all its sources
abbrev pub Sources : Type 0
Sources = Option ℕ

-- so an event asks for them on an interface
abbrev pub AsksFor : (g : ℕ) → Sources → (i : ℕ) → State → Option Accepted → Type 0
AsksFor g None i s o = (src : ℕ) → asks_for s.present i g src s o ≡ true
AsksFor g (Some src) i s o = asks_for s.present i g src s o ≡ true

-- by the move a router is asked for them on its interface on the link
pub record IsAskedFor (g : ℕ) (x : Sources) (link r i : ℕ) (n : Network) (m : Move) : Type 0 where
  pub event : Event
  pub is : event_of n m ≡ Some (r, event)
  pub station : Station
  pub at : station_at n r ≡ Some station
  pub linked : slice_get station.links i ≡ Some link
  pub asks : AsksFor g x i station.state (done_as (happens station.state event))

-- a host's report
abbrev pub is_report : Option Accepted → Bool
is_report (Some (Accepted.Report i records)) = true
is_report o = false

-- what is asked for is asked for by a Join(*,G), or by a Join(S,G)
abbrev pub IsJoinedAs : Sources → Sources → Type 0
IsJoinedAs x y = (y ≡ None) ⊎ (y ≡ x)

-- one of the moves of before does something, which may tell of those before it
abbrev pub SomeAfter : (List (Network × Move) → Network → Move → Type 0) → List (Network × Move) → Type 0
SomeAfter P [] = ⊥
SomeAfter P (x ∷ xs) = P xs x.0 x.1 ⊎ SomeAfter P xs

-- ---- a way of Joins

-- by the move a host asks for them, and it is no longer ago than a time, at that router
pub record IsAskedByHost (life g : ℕ) (x : Sources) (link r i present : ℕ) (n : Network) (m : Move) : Type 0 where
  pub asked : IsAskedFor g x link r i n m
  pub report : is_report (done_as (happens (asked.station).state asked.event)) ≡ true
  pub recent : present < ((asked.station).state).present + life

-- what leads on from a router: on one of its links it has been asked, as it finds it at its present time
pub record IsAskedOn (Way : (link r i present : ℕ) → List (Network × Move) → Type 0) (r present : ℕ) (before : List (Network × Move))
    : Type 0 where
  pub link : ℕ
  pub iface : ℕ
  pub way : Way link r iface present before

-- the source is on a link of the router's own
abbrev pub HasSource : Sources → State → Type 0
HasSource None s = ⊥
HasSource (Some src) s = is_in_subnet (s.configured).interfaces src ≡ true

-- By the move a router of the link sends the frame, which comes to the next one no later than so much after the move's event began; and it
-- has been asked itself, by the move at the latest.
pub record IsSentBecause (late : ℕ) (started : ℕ → ℕ) (Way : (link r i present : ℕ) → List (Network × Move) → Type 0) (x : Sources)
    (link number time : ℕ) (before : List (Network × Move)) (n : Network) (m : Move) : Type 0 where
  pub router : ℕ
  pub event : Event
  pub is : event_of n m ≡ Some (router, event)
  pub station : Station
  pub at : station_at n router ≡ Some station
  pub iface : ℕ
  pub linked : slice_get station.links iface ≡ Some link
  pub new : length n.frames < number
  pub sent : number ≤ length ((moved n m).1).frames
  pub soon : time ≤ time_at started router station + late
  pub because : IsAskedOn Way router (station.state).present ((n, m) ∷ before) ⊎ HasSource x station.state

-- by the move a Join comes that a router of the link had sent because it had been asked itself; and it is no longer ago than a time
pub record IsAskedByRouter (life late g : ℕ) (started : ℕ → ℕ) (Way : Sources → (link r i present : ℕ) → List (Network × Move) → Type 0)
    (x : Sources) (link r i present : ℕ) (before : List (Network × Move)) (n : Network) (m : Move) : Type 0 where
  pub join : Sources
  pub joined : IsJoinedAs x join
  pub asked : IsAskedFor g join link r i n m
  pub recent : present < ((asked.station).state).present + life
  pub number : ℕ
  pub draw : ℕ
  pub comes : m ≡ Deliver r i number draw
  pub sent : SomeAfter (IsSentBecause late started (Way join) join link number (time_at started r asked.station)) before

-- the interface of a router has been asked for them: over so many Joins a host has, or a router with the source on its own link
abbrev pub IsForHost : (life late g : ℕ) → (ℕ → ℕ) → (joins : ℕ) → Sources → (link r i present : ℕ) → List (Network × Move) → Type 0
IsForHost life late g started zero x link r i present before =
    SomeAfter (λ earlier n m. IsAskedByHost life g x link r i present n m) before
IsForHost life late g started (suc k) x link r i present before =
    SomeAfter (IsAskedByRouter life late g started (λ y. IsForHost life late g started k y) x link r i present) before

-- ---- what is asked

-- A router's state comes of events from its opening on, with an accepted configuration, and it has a link for each of its interfaces.
pub record IsLed (events : List Event) (st : Station) : Type 0 where
  pub config : Config
  pub accepted : config_test config ≡ Ok tt
  pub led : state_after (opening config) events ≡ st.state
  pub linked : length st.links ≡ length config.interfaces

-- a network in which nothing has happened yet
pub record IsNew (n : Network) : Type 0 where
  pub opened : (r : ℕ) (st : Station) → station_at n r ≡ Some st → IsLed [] st
  pub silent : n.frames ≡ []

-- what a router was asked before is over by a limit
pub record IsOverBy (g limit : ℕ) (started : ℕ → ℕ) (r : ℕ) (st : Station) : Type 0 where
  pub events : List Event
  pub led : IsLed events st
  pub over : (i src now : ℕ) → has_cause (past_after [] (opening led.config) events) now i g src ≡ true → now + started r < limit

-- by the move a frame comes to a router's interface that wasn't there to begin with, no more than d after it was sent
pub record ComesSoon (d first : ℕ) (started : ℕ → ℕ) (t : Traffic) (r i : ℕ) (st : Station) (m : Move) : Type 0 where
  pub number : ℕ
  pub draw : ℕ
  pub comes : m ≡ Deliver r i number draw
  pub new : first < number
  pub soon : time_at started r st ≤ t.sent number + d

-- by the move no router's time goes on by more than a tick
abbrev pub GoesOnBy : (tick : ℕ) → Network → Move → Type 0
GoesOnBy tick n m = (r : ℕ) (e : Event) (st : Station) → event_of n m ≡ Some (r, e) → station_at n r ≡ Some st
    → ((step st.state e).state).present ≤ (st.state).present + tick

-- Who asks is heard for no longer than a time, what a router sends is sent by it, its time goes on by no more than a tick at once; and each
-- Join/Prune that comes to a router is a frame that was sent since the beginning.
pub record JoinsAreSent (life d tick first : ℕ) (started : ℕ → ℕ) (t : Traffic) (n : Network) (m : Move) : Type 0 where
  pub lasts : (r i : ℕ) (e : Event) (st : Station) → event_of n m ≡ Some (r, e) → station_at n r ≡ Some st
      → lasts_within life i st.state (done_as (happens st.state e)) ≡ true
  pub sent : IsSentBy started t n m
  pub ticks : GoesOnBy tick n m
  pub joins : (r : ℕ) (e : Event) (st : Station) (i : IfaceId) (joins : JoinPrune) → event_of n m ≡ Some (r, e) → station_at n r ≡ Some st
      → done_as (happens st.state e) ≡ Some (Accepted.JoinPruneToMe i joins) → ComesSoon d first started t r i.number st m

-- A Join(*,G), or a Join(S,G), that comes to a router is of one that is farther from the RP, or from the source.
abbrev pub JoinsLeadUp : (g src : ℕ) → (distance : Sources → ℕ → ℕ) → Traffic → Network → Move → Type 0
JoinsLeadUp g src distance t n m = (r number draw : ℕ) (e : Event) (st : Station) (i : IfaceId) (joins : JoinPrune) (x : Sources)
    → m ≡ Deliver r i.number number draw → event_of n m ≡ Some (r, e) → station_at n r ≡ Some st
    → done_as (happens st.state e) ≡ Some (Accepted.JoinPruneToMe i joins) → IsJoinedAs (Some src) x
    → is_named (joined_keys st.state i.number joins) (key_of i.number g x false) ≡ true → distance x r < distance x (t.by number)

-- ---- what holds

-- by the move a host has asked for the source's packets, less than a time ago
pub record HostAsked (g src : ℕ) (started : ℕ → ℕ) (time within : ℕ) (n : Network) (m : Move) : Type 0 where
  pub link : ℕ
  pub router : ℕ
  pub iface : ℕ
  pub asked : IsAskedFor g (Some src) link router iface n m
  pub report : is_report (done_as (happens (asked.station).state asked.event)) ≡ true
  pub recent : time < time_at started router asked.station + within

-- by the move a router with the source on a link of its own has sent, less than a time ago
pub record SourceJoined (src : ℕ) (started : ℕ → ℕ) (time within : ℕ) (n : Network) (m : Move) : Type 0 where
  pub router : ℕ
  pub event : Event
  pub is : event_of n m ≡ Some (router, event)
  pub station : Station
  pub at : station_at n router ≡ Some station
  pub has : HasSource (Some src) station.state
  pub recent : time < time_at started router station + within

-- how long ago the end of a way may have asked: it is heard for so long, as each of the Joins is, and these are late by so much
abbrev pub way_time : (life late joins : ℕ) → ℕ
way_time life late joins = life + joins * (life + late)

-- A router of the link puts a packet there as a copy, for which over so many Joins somebody has asked.
pub record IsOnWay (life late g src : ℕ) (started : ℕ → ℕ) (Few : ℕ → Type 0) (link : ℕ) (bytes : List ℕ) (before : List (Network × Move))
    (n : Network) (m : Move) : Type 0 where
  pub router : ℕ
  pub event : Event
  pub is : event_of n m ≡ Some (router, event)
  pub station : Station
  pub at : station_at n router ≡ Some station
  pub iface : ℕ
  pub linked : slice_get station.links iface ≡ Some link
  pub copied : Contains (copies_at station.state event) (on_link iface bytes)
  pub joins : ℕ
  pub few : Few joins
  pub way : IsForHost life late g started joins (Some src) link router iface (station.state).present before
  pub host : SomeBefore (λ n m. HostAsked g src started (time_at started router station) (way_time life late joins) n m
      ⊎ SourceJoined src started (time_at started router station) (way_time life late joins) n m) before

-- so it is with each packet of the source that the move brings to a link, from a bound on
abbrev pub EachIsOnWay : (life late g src bound : ℕ) → (ℕ → ℕ) → (ℕ → Type 0) → List (Network × Move) → Network → Move → Type 0
EachIsOnWay life late g src bound started Few before n m = ArePast started bound n → (link number : ℕ) (bytes : List ℕ)
    → IsBroughtTo g src link number bytes n m → IsOnWay life late g src started Few link bytes before n m

-- In a network in which nothing had happened, each of a source's packets on a link is there because a way of Joins leads from the link to
-- a host that has asked, or to a router with the source on a link of its own.
abbrev pub EachLinkLeadsToHosts : Type 0
EachLinkLeadsToHosts = (g src life d tick : ℕ) (started : ℕ → ℕ) (t : Traffic) (n : Network) (ms : List Move) → is_link_local g ≡ false
    → IsNew n → EachMove (JoinsAreSent life d tick 0 started t) n ms
    → EachMoveAfter (λ before n m. (link number : ℕ) (bytes : List ℕ) → IsBroughtTo g src link number bytes n m
    → IsOnWay life (d + tick) g src started (λ joins. Unit {0}) link bytes before n m) [] n ms

-- Where Joins lead towards the RP, or towards the source, the way has no more of them than these are away.
abbrev pub EachWayIsShort : Type 0
EachWayIsShort = (g src life d tick from_rp from_source : ℕ) (distance : Sources → ℕ → ℕ) (started : ℕ → ℕ) (t : Traffic) (n : Network)
    (ms : List Move) → is_link_local g ≡ false → IsNew n → EachMove (JoinsAreSent life d tick 0 started t) n ms
    → EachMove (JoinsLeadUp g src distance t) n ms → ((r : ℕ) → distance None r ≤ from_rp) → ((r : ℕ) → distance (Some src) r ≤ from_source)
    → EachMoveAfter (λ before n m. (link number : ℕ) (bytes : List ℕ) → IsBroughtTo g src link number bytes n m
    → IsOnWay life (d + tick) g src started (λ joins. joins ≤ from_rp + from_source + 1) link bytes before n m) [] n ms

-- So it is in any network, from when what was asked before is over, and so many Joins are.
abbrev pub LinksComeToLeadToHosts : Type 0
LinksComeToLeadToHosts = (g src life d tick limit from_rp from_source : ℕ) (distance : Sources → ℕ → ℕ) (started : ℕ → ℕ) (t : Traffic)
    (n : Network) (ms : List Move) → is_link_local g ≡ false
    → ((r : ℕ) (st : Station) → station_at n r ≡ Some st → IsOverBy g limit started r st)
    → EachMove (JoinsAreSent life d tick (length n.frames) started t) n ms → EachMove (JoinsLeadUp g src distance t) n ms
    → ((r : ℕ) → distance None r ≤ from_rp) → ((r : ℕ) → distance (Some src) r ≤ from_source)
    → EachMoveAfter (EachIsOnWay life (d + tick) g src (limit + (from_rp + from_source + 1) * (life + (d + tick))) started
    (λ joins. joins ≤ from_rp + from_source + 1)) [] n ms

-- ---- where links carry what is sent

-- by the move a frame comes to a router's interface on one of the LANs
pub record ComesOnLan (lans : List Lan) (r i : ℕ) (m : Move) : Type 0 where
  pub lan : Lan
  pub among : IsOneLan lans lan
  pub member : Member
  pub its : IsOne (routers lan.link) member
  pub router : member.router ≡ r
  pub iface : member.iface ≡ i
  pub number : ℕ
  pub draw : ℕ
  pub comes : m ≡ Deliver member.router member.iface number draw

-- each Join/Prune that comes to a router is such a frame; what else is asked is as in `JoinsAreSent`
pub record JoinsComeOnLans (life tick : ℕ) (lans : List Lan) (n : Network) (m : Move) : Type 0 where
  pub lasts : (r i : ℕ) (e : Event) (st : Station) → event_of n m ≡ Some (r, e) → station_at n r ≡ Some st
      → lasts_within life i st.state (done_as (happens st.state e)) ≡ true
  pub ticks : GoesOnBy tick n m
  pub joins : (r : ℕ) (e : Event) (st : Station) (i : IfaceId) (joins : JoinPrune) → event_of n m ≡ Some (r, e) → station_at n r ≡ Some st
      → done_as (happens st.state e) ≡ Some (Accepted.JoinPruneToMe i joins) → ComesOnLan lans r i.number m

-- Where LANs carry what is sent, in order and within d, and Joins come on these, they are sent so.
abbrev pub CarriedJoinsAreSent : Type 0
CarriedJoinsAreSent = (life d late tick first : ℕ) (started : ℕ → ℕ) (t : Traffic) (came : Arrivals) (lans : List Lan) (n : Network) (ms : List Move)
    → EachMove (IsSentBy started t) n ms
    → AllByRecursion (λ (a : Lan). IsCarried d late started t came (number_of a) (routers a.link) first n ms) lans
    → EachMove (JoinsComeOnLans life tick lans) n ms → EachMove (JoinsAreSent life d tick first started t) n ms
