-- One DR on a link, some time after the last change (RFC 7761, 4.3.2).
use Rattle.std.{specs.{List.{list_all, list_any}, Option.option_map_or, Prelude.{Bool, List, Option, Some, [], false, if◌then◌else◌, nat_le, nat_lt, not, true, ℕ, ◌&&◌, ◌*◌, ◌+◌, ◌<◌, ◌==◌, ◌||◌, ◌∷◌, ◌≡◌, ◌≤◌, ◌⊎◌}}}
use Rattle.pim_types.{specs.{Keys.{iface_key, is_on, source_in}, declared.{event.Event.Event, fact.{InterfaceRow.InterfaceRow, Key.Key, NeighbourRow.NeighbourRow}}}}
use Rattle.pim_model.{specs.{declared.accepted.Accepted.Accepted, Cause.done_as, Neighbours.is_dr, Network.{Move, Network, Station, event_of, moved, station_at}, State.my_priority, Tables.{row_at, same_option}}}
use Rattle.law_streams.{specs.{Adjacent.{Adjacent, HellosInTime, Sends, most_late_hello}, Copies.happens, InTimeJoins.{Always, IsReady, time_at}}}

-- a router of a link: its interface there, with the address and the DR priority that it announces
pub record Member : Type 0 where
  pub router : ℕ
  pub iface : ℕ
  pub address : ℕ
  pub priority : ℕ

-- the router is one of those of the link
abbrev pub IsOne : List Member → Member → Type 0
IsOne [] y = ⊥
IsOne (z ∷ zs) y = (z ≡ y) ⊎ IsOne zs y

-- the first one's Hellos, and the second one, which hears them
abbrev pub between : (link : ℕ) → Member → Member → Adjacent
between link x y =
    record { lower = x.router; iface = x.iface; link = link; upper = y.router; down = y.iface; address = x.address }

-- a router of the link is up there, announces this priority, and its Hellos can be read
pub record Stands (link : ℕ) (x : Member) (n : Network) : Type 0 where
  pub sends : Sends (between link x x) n
  pub priority : my_priority (sends.station).state x.iface ≡ x.priority

-- ---- who is known on the link

-- a neighbour's row is of one of the routers of the link, with the priority that it announces
abbrev pub is_of : List Member → Key × NeighbourRow → Bool
is_of members e =
    list_any (λ (x : Member). (x.address == source_in e.0) && same_option (e.1).priority (Some x.priority)) members

-- a neighbour's row on an interface is of one of the routers of the link, or is over by a bound; a router's time is the
-- time at which it started plus its present
abbrev pub is_known : List Member → (i start bound : ℕ) → Key × NeighbourRow → Bool
is_known members i start bound e =
    not (is_on i e.0)
    || (is_of members e || option_map_or (λ end. nat_le (end + start) bound) (e.1).end false)

-- a Hello on an interface is of one of the routers of the link, with the priority that it announces
abbrev pub is_of_member : List Member → ℕ → Option Accepted → Bool
is_of_member members i (Some (Accepted.Hello j from h)) =
    not (j.number == i)
    || list_any (λ (x : Member). (x.address == from.bits) && same_option h.priority (Some x.priority)) members
is_of_member members i o = true

-- nobody else's Hellos come to the router there
abbrev pub AreOfMembers : List Member → Member → Network → List Move → Type 0
AreOfMembers members y n [] = Unit {0}
AreOfMembers members y n (m ∷ ms) =
    ((e : Event) (st : Station) → event_of n m ≡ Some (y.router, e) → station_at n y.router ≡ Some st
    → is_of_member members y.iface (done_as (happens st.state e)) ≡ true)
    × AreOfMembers members y (moved n m).1 ms

-- the router's next Hello leaves so soon that a bound is 2 d later at the earliest
pub record GreetsBy (d bound : ℕ) (started : ℕ → ℕ) (x : Member) (n : Network) : Type 0 where
  pub station : Station
  pub there : station_at n x.router ≡ Some station
  pub row : InterfaceRow
  pub is : row_at (station.state).interfaces (iface_key x.iface) ≡ Some row
  pub by : row.hello_end + started x.router + 2 * d ≤ bound

-- whoever else the router knows there it knows until a bound at most
pub record ForgetsBy (bound : ℕ) (started : ℕ → ℕ) (members : List Member) (y : Member) (n : Network) : Type 0 where
  pub station : Station
  pub there : station_at n y.router ≡ Some station
  pub over : list_all (is_known members y.iface (started y.router) bound) (station.state).neighbours ≡ true

-- the routers of a link, whose Hellos come in time
pub record MeetInTime (d bound : ℕ) (started : ℕ → ℕ) (link : ℕ) (members : List Member) (n : Network) (ms : List Move) : Type 0 where
  pub apart : (x y : Member) → IsOne members x → IsOne members y → x.address ≡ y.address → x ≡ y
  pub ready : (x : Member) → IsOne members x → IsReady x.router n
  pub stand : (x : Member) → IsOne members x → Always (Stands link x) n ms
  pub greet : (x : Member) → IsOne members x → GreetsBy d bound started x n
  pub in_time : (x y : Member) → IsOne members x → IsOne members y → (x.address == y.address) ≡ false
      → HellosInTime d started (between link x y) n ms
  pub alone : (y : Member) → IsOne members y → AreOfMembers members y n ms
  pub forget : (y : Member) → IsOne members y → ForgetsBy bound started members y n

-- ---- the law

-- the router is the DR of the link
pub record IsDrOf (x : Member) (n : Network) : Type 0 where
  pub station : Station
  pub there : station_at n x.router ≡ Some station
  pub elected : is_dr station.state x.iface ≡ true

-- one router is preferred to another as the DR: by a higher priority, or, where both have the same, by a higher address
abbrev pub is_preferred : Member → Member → Bool
is_preferred x y = if not (x.priority == y.priority) then nat_lt y.priority x.priority else nat_lt y.address x.address

-- one of the routers is the DR of the link, and no other: that to which none is preferred
pub record HasOneDr (members : List Member) (n : Network) : Type 0 where
  pub member : Member
  pub among : IsOne members member
  pub elected : IsDrOf member n
  pub only : (y : Member) → IsOne members y → IsDrOf y n → member ≡ y
  pub first : (y : Member) → IsOne members y → is_preferred y member ≡ false

-- the time at each of the routers is past a bound
abbrev pub AllPast : (ℕ → ℕ) → List Member → (bound : ℕ) → Network → Type 0
AllPast started members bound n = (x : Member) (st : Station) → IsOne members x → station_at n x.router ≡ Some st
    → bound < time_at started x.router st

-- after each move by which the time at each is past the bound, exactly one is the DR
abbrev pub OneDrAfter : (ℕ → ℕ) → List Member → (bound : ℕ) → Network → List Move → Type 0
OneDrAfter started members bound n [] = Unit {0}
OneDrAfter started members bound n (m ∷ ms) =
    (AllPast started members bound (moved n m).1 → HasOneDr members (moved n m).1)
    × OneDrAfter started members bound (moved n m).1 ms

-- Of the routers of a link, whose Hellos come to each other in time, exactly one is the DR from the bound on, without
-- end.
abbrev pub ExactlyOneDr : Type 0
ExactlyOneDr = (d bound : ℕ) (started : ℕ → ℕ) (link : ℕ) (first : Member) (others : List Member) (n : Network) (ms : List Move)
    → d < most_late_hello → MeetInTime d bound started link (first ∷ others) n ms
    → OneDrAfter started (first ∷ others) bound n ms
