-- A whole way comes to be joined from nothing: each router of it comes to hold what is joined, and from then on wants it, and
-- so joins it over the next (RFC 7761, 4.5.4 and 4.5.5).
use Rattle.std.{specs.Prelude.{List, Some, [], false, ℕ, ◌*◌, ◌+◌, ◌<◌, ◌==◌, ◌∷◌, ◌≡◌, ◌≤◌}}
use Rattle.pim_types.{specs.declared.{config.Config.Config, event.Event.Event, fact.JoinTimerRow.JoinTimerRow}}
use Rattle.pim_model.{specs.{Network.{Move, Network, Station, station_at}, State.opening, Step.state_after, Tables.row_at}}
use Rattle.law_streams.{specs.InTimeJoins.{Always, AreInTime, IsBy, IsHeld, IsJoin, IsReady, IsUnlost, Join, Pair, Wants, join_key, most_late, time_at}}
use Rattle.law_converges.{specs.{Past.HoldsPast, RpfJoins.IsNextHop}}

-- the longest that a Join timer runs: where another router's Join holds a Join back, 1.4 times the period of 60 s
abbrev pub longest_join : ℕ
longest_join = 84000

-- the Join timer of a router runs no longer than that
abbrev pub IsNear : Join → (g r : ℕ) → Network → Type 0
IsNear x g r n = (st : Station) (row : JoinTimerRow) → station_at n r ≡ Some st
    → row_at (st.state).join_timers (join_key x 0 g) ≡ Some row → row.end ≤ (st.state).present + longest_join

-- After any events each Join timer runs no longer than that.
abbrev pub JoinTimersAreShort : Type 0
JoinTimersAreShort = (x : Join) (g : ℕ) (config : Config) (events : List Event) (row : JoinTimerRow)
    → row_at (state_after (opening config) events).join_timers (join_key x 0 g) ≡ Some row
    → row.end ≤ (state_after (opening config) events).present + longest_join

-- no router is further than the lag ahead of another
abbrev pub AreTogether : (lag : ℕ) → (ℕ → ℕ) → Network → Type 0
AreTogether lag started n = (q r : ℕ) (a b : Station) → station_at n q ≡ Some a → station_at n r ≡ Some b
    → time_at started q a ≤ time_at started r b + lag

-- the Joins of a pair come in time, and its upper one loses no assert where they come; to begin with the lower one's Join
-- timer, if it runs, is no longer than it may be
pub record IsHop (x : Join) (g d : ℕ) (started : ℕ → ℕ) (n : Network) (ms : List Move) (c : Pair) : Type 0 where
  pub apart : (c.lower == c.upper) ≡ false
  pub lower_ready : IsReady c.lower n
  pub upper_ready : IsReady c.upper n
  pub near : IsNear x g c.lower n
  pub there : Always (IsNextHop x g c) n ms
  pub in_time : AreInTime x g d started c n ms
  pub unlost : Always (IsUnlost x g c) n ms

-- each pair's upper one is the lower one of the next
abbrev pub AreHops : Join → (g d : ℕ) → (ℕ → ℕ) → Network → List Move → ℕ → List Pair → Type 0
AreHops x g d started n ms r [] = Unit {0}
AreHops x g d started n ms r (c ∷ cs) =
    (c.lower ≡ r) × IsHop x g d started n ms c × AreHops x g d started n ms c.upper cs

-- to begin with the first router's time isn't past a bound, and its next Join is due so soon that the bound is 2 d later at
-- the earliest
pub record IsDue (x : Join) (g d bound : ℕ) (started : ℕ → ℕ) (r : ℕ) (n : Network) : Type 0 where
  pub early : IsBy started r bound n
  pub next : (st : Station) (row : JoinTimerRow) → station_at n r ≡ Some st
      → row_at (st.state).join_timers (join_key x 0 g) ≡ Some row → row.end + started r + 2 * d ≤ bound

-- how much later each next hop holds it: the longest Join timer, 2 d for the Join, and three times the lag
abbrev pub a_hop : (d lag : ℕ) → ℕ
a_hop d lag = longest_join + 2 * d + 3 * lag

-- past the bound the first next hop holds what is joined, and each further one a hop later
abbrev pub AreHeldPast : Join → (g d lag bound : ℕ) → (ℕ → ℕ) → Network → List Move → List Pair → Type 0
AreHeldPast x g d lag bound started n ms [] = Unit {0}
AreHeldPast x g d lag bound started n ms (c ∷ cs) =
    HoldsPast started bound (IsHeld x g c) n ms × AreHeldPast x g d lag (bound + a_hop d lag) started n ms cs

-- While the first router of a way of any length wants the group, or the source, each of the others comes to hold it, and
-- holds it without end, whatever was before.
abbrev pub WayComesToBeJoined : Type 0
WayComesToBeJoined = (x : Join) (g d lag bound : ℕ) (started : ℕ → ℕ) (n : Network) (ms : List Move) (r : ℕ) (cs : List Pair)
    → IsJoin x g → d < most_late → AreHops x g d started n ms r cs → Always (AreTogether lag started) n ms
    → Always (Wants x g r) n ms → IsDue x g d bound started r n → AreHeldPast x g d lag bound started n ms cs
