-- What routers come to join, of one link or of several, comes to be held by the next hop of each: from wanted to held (RFC
-- 7761, 4.5.4 and 4.5.5).
use Rattle.std.{specs.Prelude.{List, Some, [], false, ℕ, ◌*◌, ◌+◌, ◌<◌, ◌==◌, ◌∷◌, ◌≡◌, ◌≤◌, ◌⊎◌}}
use Rattle.pim_types.{specs.declared.fact.JoinTimerRow.JoinTimerRow}
use Rattle.pim_model.{specs.{Network.{Move, Network, Station, moved, station_at}, Tables.row_at}}
use Rattle.law_streams.{specs.InTimeJoins.{Always, AreInTime, IsHeld, IsJoin, IsReady, Join, Pair, Wants, join_key, most_late, time_at}}
use Rattle.law_converges.{specs.RpfJoins.IsNextHop}

-- the pair is one of these
abbrev pub IsPairOf : List Pair → Pair → Type 0
IsPairOf [] c = ⊥
IsPairOf (x ∷ xs) c = (x ≡ c) ⊎ IsPairOf xs c

-- the lower one wants the group, or the source, and its Joins come to the upper one in time; its next Join is due so soon
-- that a bound is 2 d later at the earliest
pub record JoinsOver (x : Join) (g d bound : ℕ) (started : ℕ → ℕ) (n : Network) (ms : List Move) (c : Pair) : Type 0 where
  pub apart : (c.lower == c.upper) ≡ false
  pub lower_ready : IsReady c.lower n
  pub upper_ready : IsReady c.upper n
  pub there : Always (IsNextHop x g c) n ms
  pub in_time : AreInTime x g d started c n ms
  pub wants : Always (Wants x g c.lower) n ms
  pub station : Station
  pub is : station_at n c.lower ≡ Some station
  pub row : JoinTimerRow
  pub timer : row_at (station.state).join_timers (join_key x 0 g) ≡ Some row
  pub by : row.end + started c.lower + 2 * d ≤ bound

-- the time at the next hop of each is past a bound
abbrev pub HopsPast : (ℕ → ℕ) → List Pair → (bound : ℕ) → Network → Type 0
HopsPast started cs bound n = (c : Pair) (st : Station) → IsPairOf cs c → station_at n c.upper ≡ Some st
    → bound < time_at started c.upper st

-- after each move by which the time at each next hop is past the bound, each holds what is joined over it
abbrev pub AllHeldAfter : Join → ℕ → (ℕ → ℕ) → List Pair → (bound : ℕ) → Network → List Move → Type 0
AllHeldAfter x g started cs bound n [] = Unit {0}
AllHeldAfter x g started cs bound n (m ∷ ms) =
    (HopsPast started cs bound (moved n m).1 → (c : Pair) → IsPairOf cs c → IsHeld x g c (moved n m).1)
    × AllHeldAfter x g started cs bound (moved n m).1 ms

-- Whatever the next hops held before, from the bound on each holds what is joined over it, without end.
abbrev pub AllComeToBeHeld : Type 0
AllComeToBeHeld = (x : Join) (g d bound : ℕ) (started : ℕ → ℕ) (cs : List Pair) (n : Network) (ms : List Move) → IsJoin x g → d < most_late
    → ((c : Pair) → IsPairOf cs c → JoinsOver x g d bound started n ms c) → AllHeldAfter x g started cs bound n ms
