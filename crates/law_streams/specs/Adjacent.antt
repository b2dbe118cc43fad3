-- Neighbours in time: a router whose Hellos come to another within d is its neighbour without end.
use Rattle.std.{specs.Prelude.{Bool, List, Option, Some, [], false, length, nat_lt, slice_get, true, ℕ, ◌&&◌, ◌*◌, ◌+◌, ◌<◌, ◌==◌, ◌||◌, ◌∷◌, ◌≡◌, ◌≤◌, ◌⊎◌}}
use Rattle.pim_types.{specs.{Keys.iface_key, declared.{event.Event.Event, fact.InterfaceRow.InterfaceRow}}}
use Rattle.pim_wire.{specs.Hellos.hello_holdtime}
use Rattle.pim_model.{specs.{declared.accepted.Accepted.Accepted, Cause.done_as, Full.hello_is_full, Hellos.hello_holdtime_of, Neighbours.is_neighbour, Network.{Deliver, Move, Network, Station, event_of, frame_at, moved, station_at}, State.{State, address_among, is_up}, Tables.row_at}}
use Rattle.law_streams.{specs.{Copies.happens, Hellos.{IsReadable, Listens, hello_of}, InTimeJoins.{Always, IsBy, IsReady, time_at}, Neighbours.HoldsNeighbour}}

-- two routers on a link: one sends Hellos, the other hears them
pub record Adjacent : Type 0 where
  pub lower : ℕ
  pub iface : ℕ
  pub link : ℕ
  pub upper : ℕ
  pub down : ℕ
  -- the sender's address there
  pub address : ℕ

-- the sender's interface is up, on the link, with its address, and its Hellos can be read
pub record Sends (c : Adjacent) (n : Network) : Type 0 where
  pub station : Station
  pub there : station_at n c.lower ≡ Some station
  pub up : is_up station.state c.iface ≡ true
  pub linked : slice_get station.links c.iface ≡ Some c.link
  pub own : address_among (station.state).configured c.iface ≡ c.address
  pub readable : IsReadable (station.state).configured c.iface

-- the receiver knows it beyond its present time, and until a timestamp at least
pub record KnowsTo (started : ℕ → ℕ) (c : Adjacent) (limit : ℕ) (n : Network) : Type 0 where
  pub station : Station
  pub there : station_at n c.upper ≡ Some station
  pub end : ℕ
  pub later : (station.state).present < end
  pub holds : HoldsNeighbour station.state c.down c.address end
  pub lasts : limit ≤ end + started c.upper

-- the move delivers the frame of a number to the receiver, no sooner than it was sent; the receiver listens on the link,
-- and there is room for a neighbour
pub record HelloComes (started : ℕ → ℕ) (c : Adjacent) (number sent : ℕ) (n : Network) (m : Move) : Type 0 where
  pub draw : ℕ
  pub is : m ≡ Deliver c.upper c.down number draw
  pub station : Station
  pub there : station_at n c.upper ≡ Some station
  pub linked : slice_get station.links c.down ≡ Some c.link
  pub listens : Listens station.state c.down c.address
  pub room : hello_is_full station.state c.down c.address hello_holdtime ≡ false
  pub after : sent ≤ time_at started c.upper station

-- the frame is delivered before the receiver's time is past d after it was sent, if the moves go so far
abbrev pub HelloComesBy : (d : ℕ) → (ℕ → ℕ) → Adjacent → (number sent : ℕ) → Network → List Move → Type 0
HelloComesBy d started c number sent n [] = Unit {0}
HelloComesBy d started c number sent n (m ∷ ms) =
    HelloComes started c number sent n m
    ⊎ (IsBy started c.upper (sent + d) (moved n m).1 × HelloComesBy d started c number sent (moved n m).1 ms)

-- an event that begins or ends the interface
abbrev pub begins_or_ends : ℕ → Option Accepted → Bool
begins_or_ends i (Some (Accepted.Up j)) = j.number == i
begins_or_ends i (Some (Accepted.Down j)) = j.number == i
begins_or_ends i o = false

-- a Hello of the neighbour whose holdtime is over before that of the one before
abbrev pub shortens : State → (i address end : ℕ) → Option Accepted → Bool
shortens s i address end (Some (Accepted.Hello j from h)) =
    ((j.number == i) && (from.bits == address))
    && ((hello_holdtime_of h == 0) || nat_lt (s.present + 1000 * hello_holdtime_of h) end)
shortens s i address end o = false

pub record HelloInTime (d : ℕ) (started : ℕ → ℕ) (c : Adjacent) (n : Network) (m : Move) (ms : List Move) : Type 0 where
  -- the Hello timer is at most d late, by the time at either router
  pub timer : (st : Station) (row : InterfaceRow) → station_at n c.lower ≡ Some st
      → row_at (st.state).interfaces (iface_key c.iface) ≡ Some row
      → IsBy started c.lower (row.hello_end + started c.lower + d) (moved n m).1
      × IsBy started c.upper (row.hello_end + started c.lower + d) (moved n m).1
  -- each Hello that is sent comes to the receiver within d
  pub hellos : (e : Event) (st : Station) (number generation : ℕ) → event_of n m ≡ Some (c.lower, e)
      → station_at (moved n m).1 c.lower ≡ Some st → length n.frames < number
      → frame_at (moved n m).1 number ≡ Some (record { link = Some c.link; bytes = hello_of (st.state).configured c.iface generation })
      → HelloComesBy d started c number (time_at started c.lower st) (moved n m).1 ms
  -- neither interface begins or ends, and no Hello ends sooner than the one before
  pub sender_stays : (e : Event) (st : Station) → event_of n m ≡ Some (c.lower, e) → station_at n c.lower ≡ Some st
      → begins_or_ends c.iface (done_as (happens st.state e)) ≡ false
  pub receiver_stays : (e : Event) (st : Station) → event_of n m ≡ Some (c.upper, e) → station_at n c.upper ≡ Some st
      → begins_or_ends c.down (done_as (happens st.state e)) ≡ false
  pub lengthens : (e : Event) (st : Station) (end : ℕ) → event_of n m ≡ Some (c.upper, e) → station_at n c.upper ≡ Some st
      → HoldsNeighbour st.state c.down c.address end → shortens st.state c.down c.address end (done_as (happens st.state e)) ≡ false

abbrev pub HellosInTime : (d : ℕ) → (ℕ → ℕ) → Adjacent → Network → List Move → Type 0
HellosInTime d started c n [] = Unit {0}
HellosInTime d started c n (m ∷ ms) = HelloInTime d started c n m ms × HellosInTime d started c (moved n m).1 ms

-- the receiver has the sender as a neighbour
pub record IsKnown (c : Adjacent) (n : Network) : Type 0 where
  pub station : Station
  pub there : station_at n c.upper ≡ Some station
  pub known : is_neighbour station.state c.down c.address ≡ true

-- half of what the holdtime of a Hello (105 s) is beyond its period (30 s)
abbrev pub most_late_hello : ℕ
most_late_hello = 37500

-- to begin with the receiver knows the sender until 2 d after the sender's next Hello at least
pub record IsKnownFirst (d : ℕ) (started : ℕ → ℕ) (c : Adjacent) (n : Network) : Type 0 where
  pub sender : Station
  pub sender_is : station_at n c.lower ≡ Some sender
  pub row : InterfaceRow
  pub row_is : row_at (sender.state).interfaces (iface_key c.iface) ≡ Some row
  pub limit : ℕ
  pub knows : KnowsTo started c limit n
  pub lasts : row.hello_end + started c.lower + 2 * d < limit

-- However many moves there are, the receiver has the sender as a neighbour.
abbrev pub NeighboursStay : Type 0
NeighboursStay = (d : ℕ) (started : ℕ → ℕ) (c : Adjacent) (n : Network) (ms : List Move) → d < most_late_hello
    → IsReady c.upper n → Always (Sends c) n ms → IsKnownFirst d started c n
    → HellosInTime d started c n ms → Always (IsKnown c) n ms

-- ---- it comes to be known, whatever went before

-- after each move the receiver's time isn't past a bound yet, or it has the sender as a neighbour
abbrev pub IsKnownAfter : (ℕ → ℕ) → Adjacent → (bound : ℕ) → Network → List Move → Type 0
IsKnownAfter started c bound n [] = Unit {0}
IsKnownAfter started c bound n (m ∷ ms) =
    (IsBy started c.upper bound (moved n m).1 ⊎ IsKnown c (moved n m).1) × IsKnownAfter started c bound (moved n m).1 ms

-- From 2 d after the sender's next Hello on the receiver has it as a neighbour without end, whether it had it before or
-- not.
abbrev pub NeighboursComeToBeKnown : Type 0
NeighboursComeToBeKnown = (d : ℕ) (started : ℕ → ℕ) (c : Adjacent) (n : Network) (ms : List Move) (st : Station) (row : InterfaceRow)
    → d < most_late_hello → IsReady c.upper n → Always (Sends c) n ms → HellosInTime d started c n ms
    → station_at n c.lower ≡ Some st → row_at (st.state).interfaces (iface_key c.iface) ≡ Some row
    → IsKnownAfter started c (row.hello_end + started c.lower + 2 * d) n ms
