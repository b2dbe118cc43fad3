-- Joins of other routers on a link, for which a router holds its own back, as frames: each that is sent comes to the
-- upper one in time, and the lower one sees it in time.
use Rattle.std.{specs.Prelude.{List, Some, [], false, length, slice_get, true, ℕ, ◌+◌, ◌<◌, ◌==◌, ◌∷◌, ◌≡◌, ◌≤◌, ◌⊎◌}}
use Rattle.pim_types.{specs.declared.{event.{Event.Event, EventKind.EventKind}, fact.JoinTimerRow.JoinTimerRow, path.Hop.Hop}}
use Rattle.pim_model.{specs.{Cause.done_as, Network.{Deliver, Move, Network, Sent, Station, event_of, frame_at, moved, station_at}, State.{State, is_up, my_address}, Tables.row_at}}
use Rattle.law_streams.{specs.{Copies.happens, Joins.{Hears, IsWritable, join_packet}, InTimeJoins.{Always, AreInTime, ComesBy, IsBy, IsJoin, IsReady, IsRp, IsTaken, Join, Pair, entry_of, frame_of, is_suppressed, join_key, most_late, most_late_shared, prunes_it, prunes_of, time_at}}}

-- a Join to the upper one from a router on the link, by that router's address
abbrev pub frame_from : Join → ℕ → Pair → (from : ℕ) → List ℕ → Sent
frame_from x g c from pruned = frame_of x g (record c { from = from }) pruned

-- the upper one is up on the link, with the address to which Joins go, and has the RP; nothing is asked of its neighbours
pub record IsAbove (x : Join) (g : ℕ) (c : Pair) (n : Network) : Type 0 where
  pub station : Station
  pub there : station_at n c.upper ≡ Some station
  pub rp_known : IsRp x station.state g
  pub up : is_up station.state c.down ≡ true
  pub own : my_address station.state c.down ≡ (c.hop).address.bits
  pub linked : slice_get station.links c.down ≡ Some c.link

-- the move delivers the frame of a number to the upper one, to which its sender is a live neighbour
pub record IsTakenFrom (x : Join) (g : ℕ) (started : ℕ → ℕ) (c : Pair) (from : ℕ) (pruned : List ℕ) (number sent : ℕ) (n : Network) (m : Move) : Type 0 where
  pub taken : IsTaken x g started c pruned number sent n m
  pub hears : (st : Station) → station_at n c.upper ≡ Some st → Hears st.state c.down from

-- the frame is delivered before the upper one's time is past d after it was sent, if the moves go so far
abbrev pub ComesFrom : Join → (g d : ℕ) → (ℕ → ℕ) → Pair → (from : ℕ) → List ℕ → (number sent : ℕ) → Network → List Move → Type 0
ComesFrom x g d started c from pruned number sent n [] = Unit {0}
ComesFrom x g d started c from pruned number sent n (m ∷ ms) =
    IsTakenFrom x g started c from pruned number sent n m
    ⊎ (IsBy started c.upper (sent + d) (moved n m).1
    × ComesFrom x g d started c from pruned number sent (moved n m).1 ms)

-- The move delivers to the lower one a Join of another router, which was sent behind the first frames, no sooner than it
-- was sent, and before the time at either router is past d after that. The time of each frame is given by its number.
pub record IsSeenFrom (x : Join) (g d : ℕ) (started sent : ℕ → ℕ) (c : Pair) (first : ℕ) (n : Network) (m : Move) : Type 0 where
  pub few : d < most_late_shared
  pub number : ℕ
  pub later : first < number
  pub draw : ℕ
  pub is : m ≡ Deliver c.lower (c.hop).iface.number number draw
  pub from : ℕ
  pub pruned : List ℕ
  pub framed : frame_at n number ≡ Some (frame_from x g c from pruned)
  pub writable : IsWritable from (c.hop).address.bits g (entry_of x) (prunes_of pruned)
  pub seen : (st : Station) → station_at n c.lower ≡ Some st → time_at started c.lower st ≤ sent number + d
  pub after : (st : Station) → station_at (moved n m).1 c.lower ≡ Some st → sent number ≤ time_at started c.lower st
  pub by : IsBy started c.upper (sent number + d) (moved n m).1

-- what is asked of a move: as in `IsInTime`, but of the Joins of others by their frames
pub record IsOnLink (x : Join) (g d : ℕ) (started sent : ℕ → ℕ) (c : Pair) (first : ℕ) (n : Network) (m : Move) (ms : List Move) : Type 0 where
  pub timer : (st : Station) (row : JoinTimerRow) → station_at n c.lower ≡ Some st
      → row_at (st.state).join_timers (join_key x 0 g) ≡ Some row
      → IsBy started c.lower (row.end + started c.lower + d) (moved n m).1
      × IsBy started c.upper (row.end + started c.lower + d) (moved n m).1
  pub joins : (e : Event) (st : Station) (number : ℕ) (pruned : List ℕ) → event_of n m ≡ Some (c.lower, e)
      → station_at (moved n m).1 c.lower ≡ Some st → length n.frames < number
      → frame_at (moved n m).1 number ≡ Some (frame_of x g c pruned)
      → IsWritable c.from (c.hop).address.bits g (entry_of x) (prunes_of pruned)
      × ComesBy x g d started c pruned number (time_at started c.lower st) (moved n m).1 ms
  pub unpruned : (e : Event) (st : Station) → event_of n m ≡ Some (c.upper, e) → station_at n c.upper ≡ Some st
      → prunes_it x g c.down (done_as (happens st.state e)) ≡ false
  -- each Join to the upper one that a router sends on the link comes to it
  pub others : (number from : ℕ) (pruned : List ℕ) → length n.frames < number
      → frame_at (moved n m).1 number ≡ Some (frame_from x g c from pruned)
      → IsWritable from (c.hop).address.bits g (entry_of x) (prunes_of pruned)
      → ComesFrom x g d started c from pruned number (sent number) (moved n m).1 ms
  -- the lower one holds its own Join back for none but such a frame
  pub shared : (e : Event) (st : Station) → event_of n m ≡ Some (c.lower, e) → station_at n c.lower ≡ Some st
      → is_suppressed x st.state g c.hop (done_as (happens st.state e)) ≡ true
      → IsSeenFrom x g d started sent c first n m

abbrev pub AreOnLink : Join → (g d : ℕ) → (started sent : ℕ → ℕ) → Pair → (first : ℕ) → Network → List Move → Type 0
AreOnLink x g d started sent c first n [] = Unit {0}
AreOnLink x g d started sent c first n (m ∷ ms) =
    IsOnLink x g d started sent c first n m ms × AreOnLink x g d started sent c first (moved n m).1 ms

-- ---- laws

-- Where a Join of another router is delivered to the lower one, which isn't the upper one, it holds its own back.
abbrev pub JoinSuppresses : Type 0
JoinSuppresses = (x : Join) (g : ℕ) (hop : Hop) (s : State) (from draw : ℕ) (pruned : List ℕ) → IsJoin x g → IsRp x s g
    → Hears s hop.iface.number from → (hop.address.bits == my_address s hop.iface.number) ≡ false
    → IsWritable from hop.address.bits g (entry_of x) (prunes_of pruned)
    → (let e : Event = record {
      draw = draw;
      kind = EventKind.Frame (record { number = hop.iface.number })
          (join_packet from hop.address.bits g (entry_of x) (prunes_of pruned));
    } in
    is_suppressed x s g hop (done_as (happens s e)) ≡ true)

-- Where the frames of others' Joins come in time, these Joins come to both, and so all Joins come in time.
abbrev pub FramesComeToBoth : Type 0
FramesComeToBoth = (x : Join) (g d : ℕ) (started sent : ℕ → ℕ) (c : Pair) (n : Network) (ms : List Move) → IsJoin x g
    → d < most_late → IsReady c.upper n → Always (IsAbove x g c) n ms
    → AreOnLink x g d started sent c (length n.frames) n ms → AreInTime x g d started c n ms
