-- One querier on a link, some time after the last change (RFC 3376, 6.6.2).
use Rattle.std.{specs.{Prelude.{Bool, List, Option, Some, [], false, length, nat_le, nat_lt, slice_get, true, ℕ, ◌&&◌, ◌*◌, ◌+◌, ◌/◌, ◌<◌, ◌==◌, ◌∷◌, ◌≡◌, ◌≤◌, ◌⊎◌}}}
use Rattle.pim_ip.{specs.Ipv4.{all_systems, igmp_packet_text, is_unicast}}
use Rattle.pim_types.{specs.declared.{config.Settings.Settings, event.Event.Event, fact.{QuerierRole.QuerierRole, QuerierRow.QuerierRow}}}
use Rattle.igmp_wire.{specs.{Codes.{code_value, value_code}, Queries.query_text, Values.Query as QueryValue}}
use Rattle.pim_model.{specs.{declared.accepted.Accepted.Accepted, Cause.done_as, Network.{Deliver, Move, Network, Station, event_of, frame_at, moved, station_at}, Querier.{given_or, is_lower_querier, is_querier, querier_on}, State.{State, address_among}}}
use Rattle.law_streams.{specs.{Adjacent.{Adjacent, begins_or_ends}, Copies.happens, Hellos.Listens, InTimeJoins.{Always, IsBy, IsReady, time_at}}}
use Rattle.law_converges.{specs.LinkDr.{AllPast, IsOne, Member, between}}

-- ---- a general query

-- the value of the general query of a router with these settings
abbrev pub general_of : Settings → QueryValue
general_of t = record {
  max_response_code = value_code t.query_response_interval;
  group = 0;
  suppress = false;
  robustness = t.robustness;
  interval_code = value_code t.query_interval;
  sources = [];
}

-- its bytes, from an address
abbrev pub query_packet : ℕ → Settings → List ℕ
query_packet address t = igmp_packet_text address all_systems (query_text (general_of t))

-- [Query Interval], in ms
abbrev pub interval_of : Settings → ℕ
interval_of t = 1000 * t.query_interval

-- [Other Querier Present Interval] (8.5), in ms, of a router with these settings after another's query
abbrev pub present_for : Settings → QueryValue → ℕ
present_for t q =
    given_or q.robustness t.robustness * (1000 * given_or (code_value q.interval_code) t.query_interval)
    + (100 * t.query_response_interval) / 2

-- ---- the querier's row

-- when the next general query leaves, or another querier is taken for gone
abbrev pub role_end : QuerierRole → ℕ
role_end (QuerierRole.Querier next left) = next
role_end (QuerierRole.NonQuerier end) = end

-- who is the querier goes by the configured values
abbrev pub is_own : Settings → QuerierRole → QuerierRow → Bool
is_own t (QuerierRole.Querier next left) q = (q.robustness == t.robustness) && (q.query_interval == t.query_interval)
is_own t (QuerierRole.NonQuerier end) q = true

-- another router is the querier of the link, until a timestamp at least
pub record HoldsBack (s : State) (i end : ℕ) : Type 0 where
  pub row : QuerierRow
  pub found : querier_on s i ≡ Some row
  pub until : ℕ
  pub role : row.role ≡ QuerierRole.NonQuerier until
  pub lasts : end ≤ until

-- a query of a lower address on the interface, by which the other querier is present for less time
abbrev pub cuts : State → (i end : ℕ) → Option Accepted → Bool
cuts s i end (Some (Accepted.Query j from q)) =
    ((j.number == i) && is_lower_querier s j.number from.bits) && nat_lt (s.present + present_for s.settings q) end
cuts s i end o = false

-- The events that may end it before: time that passes to it, the interface going up or down, and such a query.
abbrev pub ends_holding : State → (i end : ℕ) → Option Accepted → Bool
ends_holding s i end (Some (Accepted.Advance moment)) = nat_le end moment
ends_holding s i end (Some (Accepted.Up j)) = j.number == i
ends_holding s i end (Some (Accepted.Down j)) = j.number == i
ends_holding s i end (Some (Accepted.Query j from q)) =
    ((j.number == i) && is_lower_querier s j.number from.bits) && nat_lt (s.present + present_for s.settings q) end
ends_holding s i end o = false

-- the interface goes up or down, or a query of a lower address comes there
abbrev pub takes_lead : State → ℕ → Option Accepted → Bool
takes_lead s i (Some (Accepted.Up j)) = j.number == i
takes_lead s i (Some (Accepted.Down j)) = j.number == i
takes_lead s i (Some (Accepted.Query j from q)) = (j.number == i) && is_lower_querier s j.number from.bits
takes_lead s i o = false

-- ---- two routers of a link

-- a router has a querier's row on its interface to the link, under these settings, and its queries can be read
pub record Asks (t : Settings) (c : Adjacent) (n : Network) : Type 0 where
  pub station : Station
  pub there : station_at n c.lower ≡ Some station
  pub settings : (station.state).settings ≡ t
  pub row : QuerierRow
  pub found : querier_on station.state c.iface ≡ Some row
  pub linked : slice_get station.links c.iface ≡ Some c.link
  pub own : address_among (station.state).configured c.iface ≡ c.address
  pub from_host : is_unicast c.address ≡ true

-- the move delivers the query of a number to another router of a higher address, no sooner than it was sent
pub record QueryComes (t : Settings) (hold : ℕ) (started : ℕ → ℕ) (c : Adjacent) (number sent : ℕ) (n : Network) (m : Move) : Type 0 where
  pub draw : ℕ
  pub is : m ≡ Deliver c.upper c.down number draw
  pub station : Station
  pub there : station_at n c.upper ≡ Some station
  pub linked : slice_get station.links c.down ≡ Some c.link
  pub listens : Listens station.state c.down c.address
  pub lower : is_lower_querier station.state c.down c.address ≡ true
  -- by the query it takes the other for the querier at least so long
  pub lasts : hold ≤ present_for (station.state).settings (general_of t)
  pub after : sent ≤ time_at started c.upper station

-- the query is delivered before the other router's time is past d after it was sent, if the moves go so far
abbrev pub QueryComesBy : Settings → (hold d : ℕ) → (ℕ → ℕ) → Adjacent → (number sent : ℕ) → Network → List Move → Type 0
QueryComesBy t hold d started c number sent n [] = Unit {0}
QueryComesBy t hold d started c number sent n (m ∷ ms) =
    QueryComes t hold started c number sent n m
    ⊎ (IsBy started c.upper (sent + d) (moved n m).1 × QueryComesBy t hold d started c number sent (moved n m).1 ms)

pub record QueryInTime (t : Settings) (hold d : ℕ) (started : ℕ → ℕ) (c : Adjacent) (n : Network) (m : Move) (ms : List Move) : Type 0 where
  -- the timer of the first one's row is at most d late, by the time at either router
  pub timer : (st : Station) (row : QuerierRow) → station_at n c.lower ≡ Some st → querier_on st.state c.iface ≡ Some row
      → IsBy started c.lower (role_end row.role + started c.lower + d) (moved n m).1
      × IsBy started c.upper (role_end row.role + started c.lower + d) (moved n m).1
  -- each general query that is sent comes to the other within d
  pub queries : (e : Event) (st : Station) (number : ℕ) → event_of n m ≡ Some (c.lower, e)
      → station_at (moved n m).1 c.lower ≡ Some st → length n.frames < number
      → frame_at (moved n m).1 number ≡ Some (record { link = Some c.link; bytes = query_packet c.address t })
      → QueryComesBy t hold d started c number (time_at started c.lower st) (moved n m).1 ms
  -- the other's interface doesn't begin or end, and no query shortens for how long another is taken for the querier
  pub follows : (e : Event) (st : Station) → event_of n m ≡ Some (c.upper, e) → station_at n c.upper ≡ Some st
      → begins_or_ends c.down (done_as (happens st.state e)) ≡ false
  pub lengthens : (e : Event) (st : Station) (end : ℕ) → event_of n m ≡ Some (c.upper, e) → station_at n c.upper ≡ Some st
      → HoldsBack st.state c.down end → cuts st.state c.down end (done_as (happens st.state e)) ≡ false

abbrev pub QueriesInTime : Settings → (hold d : ℕ) → (ℕ → ℕ) → Adjacent → Network → List Move → Type 0
QueriesInTime t hold d started c n [] = Unit {0}
QueriesInTime t hold d started c n (m ∷ ms) =
    QueryInTime t hold d started c n m ms × QueriesInTime t hold d started c (moved n m).1 ms

-- the router's interface to the link doesn't begin or end, and nobody of a lower address queries there
abbrev pub KeepsLead : Adjacent → Network → List Move → Type 0
KeepsLead c n [] = Unit {0}
KeepsLead c n (m ∷ ms) =
    ((e : Event) (st : Station) → event_of n m ≡ Some (c.lower, e) → station_at n c.lower ≡ Some st
    → takes_lead st.state c.iface (done_as (happens st.state e)) ≡ false)
    × KeepsLead c (moved n m).1 ms

-- to begin with, whoever the first one's row says is the querier, by that row's timer a bound is 2 d later at the
-- earliest; if it is the router itself it goes by its own values
pub record LeadsBy (t : Settings) (d bound : ℕ) (started : ℕ → ℕ) (c : Adjacent) (n : Network) : Type 0 where
  pub station : Station
  pub there : station_at n c.lower ≡ Some station
  pub row : QuerierRow
  pub found : querier_on station.state c.iface ≡ Some row
  pub own : is_own t row.role row ≡ true
  pub by : role_end row.role + started c.lower + 2 * d ≤ bound

-- ---- the law

-- the routers of a link, of which the first has the lowest address, and whose queries come in time
pub record AskInTime (t : Settings) (hold d bound : ℕ) (started : ℕ → ℕ) (link : ℕ) (first : Member) (others : List Member)
    (n : Network) (ms : List Move) : Type 0 where
  pub often : interval_of t + 2 * d < hold
  pub robust : t.robustness < 8
  pub first_ready : IsReady first.router n
  pub ready : (y : Member) → IsOne others y → IsReady y.router n
  pub asks : Always (Asks t (between link first first)) n ms
  pub leads : LeadsBy t d bound started (between link first first) n
  pub keeps : KeepsLead (between link first first) n ms
  pub in_time : (y : Member) → IsOne others y → QueriesInTime t hold d started (between link first y) n ms

-- the router is the querier of the link, or isn't
pub record IsQuerierOf (x : Member) (b : Bool) (n : Network) : Type 0 where
  pub station : Station
  pub there : station_at n x.router ≡ Some station
  pub is : is_querier station.state x.iface ≡ b

-- the first is the querier of the link, and no other
pub record HasOneQuerier (first : Member) (others : List Member) (n : Network) : Type 0 where
  pub elected : IsQuerierOf first true n
  pub only : (y : Member) → IsOne others y → IsQuerierOf y false n

abbrev pub OneQuerierAfter : (ℕ → ℕ) → Member → List Member → (bound : ℕ) → Network → List Move → Type 0
OneQuerierAfter started first others bound n [] = Unit {0}
OneQuerierAfter started first others bound n (m ∷ ms) =
    (AllPast started (first ∷ others) bound (moved n m).1 → HasOneQuerier first others (moved n m).1)
    × OneQuerierAfter started first others bound (moved n m).1 ms

-- Of the routers of a link exactly that of the lowest address is the querier from the bound on, without end.
abbrev pub ExactlyOneQuerier : Type 0
ExactlyOneQuerier = (t : Settings) (hold d bound : ℕ) (started : ℕ → ℕ) (link : ℕ) (first : Member) (others : List Member)
    (n : Network) (ms : List Move) → AskInTime t hold d bound started link first others n ms
    → OneQuerierAfter started first others bound n ms
