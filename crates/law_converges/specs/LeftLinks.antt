-- A source's packets are brought only to a link on which somebody asks for them, or did within a known time; so none comes to a link
-- that all have left (RFC 7761, 4.5; RFC 3376, 4.1 and 8.4).
use Rattle.std.{specs.{List.Contains, Prelude.{Bool, List, Ok, Option, Some, [], false, length, nat_le, not, slice_get, true, ℕ, ◌&&◌, ◌*◌, ◌+◌, ◌<◌, ◌==◌, ◌||◌, ◌∷◌, ◌≡◌, ◌≤◌, ◌⊎◌}}}
use Rattle.pim_ip.{specs.Ipv4.is_link_local}
use Rattle.pim_types.{specs.declared.{config.Config.Config, event.Event.Event}}
use Rattle.pim_model.{specs.{declared.accepted.Accepted.Accepted, Cause.{asks_for, done_as}, Downstream.holdtime_forever, Limits.config_test, Network.{Move, Network, Station, event_of, frame_at, moved, station_at}, Querier.group_membership_interval, State.{State, opening}, Step.{state_after, step}, Writing.on_link}}
use Rattle.law_streams.{specs.{Copies.{copies_at, happens}, InTimeJoins.time_at}}
use Rattle.law_converges.{specs.{Carried.EachMove, ComesOnce.IsOfSource, Past.ArePast}}

-- ---- for how long a router hears who asks

-- What a router hears on an interface is over within a time, in ms: a Join/Prune by its holdtime, and a report by [Group Membership
-- Interval].
abbrev pub lasts_within : (life i : ℕ) → State → Option Accepted → Bool
lasts_within life i s (Some (Accepted.JoinPruneToMe j m)) =
    not (j.number == i) || (not (m.holdtime == holdtime_forever) && nat_le (1000 * m.holdtime) life)
lasts_within life i s (Some (Accepted.Report j records)) = not (j.number == i) || nat_le (group_membership_interval s i) life
lasts_within life i s o = true

-- so it is with each of a router's events
abbrev pub AllLast : (life i : ℕ) → State → List Event → Type 0
AllLast life i s [] = Unit {0}
AllLast life i s (e ∷ es) = (lasts_within life i s (done_as (happens s e)) ≡ true) × AllLast life i (step s e).state es

-- such events, from its opening on, have led a router to its state
pub record HasHeard (life i : ℕ) (s : State) : Type 0 where
  pub config : Config
  pub accepted : config_test config ≡ Ok tt
  pub events : List Event
  pub led : state_after (opening config) events ≡ s
  pub last : AllLast life i (opening config) events

-- so it is on a link: with what each router of it heard there by a bound, at which the moves begin, and with what each hears there by these
pub record AsksExpire (life bound link : ℕ) (started : ℕ → ℕ) (n : Network) (ms : List Move) : Type 0 where
  pub heard : (r i : ℕ) (st : Station) → station_at n r ≡ Some st → slice_get st.links i ≡ Some link → HasHeard life i st.state
  pub by : (r i : ℕ) (st : Station) → station_at n r ≡ Some st → slice_get st.links i ≡ Some link → time_at started r st ≤ bound
  pub hears : EachMove (λ n m. (r i : ℕ) (e : Event) (st : Station) → event_of n m ≡ Some (r, e) → station_at n r ≡ Some st
      → slice_get st.links i ≡ Some link → lasts_within life i st.state (done_as (happens st.state e)) ≡ true) n ms

-- ---- who asks

-- by the move somebody asks a router, on its interface on the link, for a source's packets: by a Join(*,G), a Join(S,G) or a host's report
pub record IsAsked (g src link r i : ℕ) (n : Network) (m : Move) : Type 0 where
  pub event : Event
  pub is : event_of n m ≡ Some (r, event)
  pub station : Station
  pub at : station_at n r ≡ Some station
  pub linked : slice_get station.links i ≡ Some link
  pub asks : asks_for (station.state).present i g src station.state (done_as (happens station.state event)) ≡ true

-- it is no longer ago than a time, at that router
pub record IsAskedWithin (life g src link r i present : ℕ) (n : Network) (m : Move) : Type 0 where
  pub asked : IsAsked g src link r i n m
  pub recent : present < ((asked.station).state).present + life

-- one of the moves of before does something; each of these stands with the network that it found, the latest first
abbrev pub SomeBefore : (Network → Move → Type 0) → List (Network × Move) → Type 0
SomeBefore P [] = ⊥
SomeBefore P (x ∷ xs) = P x.0 x.1 ⊎ SomeBefore P xs

-- something holds of each move, and of those before it
abbrev pub EachMoveAfter : (List (Network × Move) → Network → Move → Type 0) → List (Network × Move) → Network → List Move → Type 0
EachMoveAfter P before n [] = Unit {0}
EachMoveAfter P before n (m ∷ ms) = P before n m × EachMoveAfter P ((n, m) ∷ before) (moved n m).1 ms

-- ---- what comes

-- the move brings a frame with a packet of the source to the link
pub record IsBroughtTo (g src link number : ℕ) (bytes : List ℕ) (n : Network) (m : Move) : Type 0 where
  pub later : length n.frames < number
  pub framed : frame_at (moved n m).1 number ≡ Some (record { link = Some link; bytes = bytes })
  pub its : IsOfSource g src bytes

-- a router of the link puts it there as a copy, which somebody on the link has asked it for within a time
pub record IsWanted (life g src link : ℕ) (bytes : List ℕ) (before : List (Network × Move)) (n : Network) (m : Move) : Type 0 where
  pub router : ℕ
  pub event : Event
  pub is : event_of n m ≡ Some (router, event)
  pub station : Station
  pub at : station_at n router ≡ Some station
  pub iface : ℕ
  pub linked : slice_get station.links iface ≡ Some link
  pub copied : Contains (copies_at station.state event) (on_link iface bytes)
  pub asked : SomeBefore (IsAskedWithin life g src link router iface (station.state).present) before

-- so it is from a bound on with each that the move brings there
abbrev pub EachIsWanted : (g src life bound link : ℕ) → (ℕ → ℕ) → List (Network × Move) → Network → Move → Type 0
EachIsWanted g src life bound link started before n m = ArePast started bound n → (number : ℕ) (bytes : List ℕ)
    → IsBroughtTo g src link number bytes n m → IsWanted life g src link bytes before n m

-- or from a bound on the move brings none there
abbrev pub NoneComes : (g src bound link : ℕ) → (ℕ → ℕ) → Network → Move → Type 0
NoneComes g src bound link started n m = ArePast started bound n → (number : ℕ) (bytes : List ℕ) → IsBroughtTo g src link number bytes n m → ⊥

-- From that time after the bound on each of a source's packets on a link is one that somebody there has asked for within that time.
abbrev pub OnlyWantedIsBrought : Type 0
OnlyWantedIsBrought = (g src life bound link : ℕ) (started : ℕ → ℕ) (n : Network) (ms : List Move) → is_link_local g ≡ false
    → AsksExpire life bound link started n ms → EachMoveAfter (EachIsWanted g src life (bound + life) link started) [] n ms

-- So none comes to a link where nobody asks for them after the bound.
abbrev pub LeftLinkIsQuiet : Type 0
LeftLinkIsQuiet = (g src life bound link : ℕ) (started : ℕ → ℕ) (n : Network) (ms : List Move) → is_link_local g ≡ false
    → AsksExpire life bound link started n ms → EachMove (λ n m. (r i : ℕ) → IsAsked g src link r i n m → ⊥) n ms
    → EachMove (NoneComes g src (bound + life) link started) n ms
