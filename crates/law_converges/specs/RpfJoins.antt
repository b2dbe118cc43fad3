-- Joins go to RPF', whether the route names that or it won the assert of what is joined on the link: what a router wants comes to be held
-- there (RFC 7761, 4.1.5, 4.5.4 and 4.5.5).
use Rattle.std.{specs.Prelude.{List, Some, false, slice_get, ℕ, ◌*◌, ◌+◌, ◌<◌, ◌==◌, ◌≡◌}}
use Rattle.pim_types.{specs.declared.fact.JoinTimerRow.JoinTimerRow}
use Rattle.pim_model.{specs.{Network.{Move, Network, Station, station_at}, State.my_address, Tables.row_at}}
use Rattle.law_streams.{specs.InTimeJoins.{Always, AreInTime, IsHeldAfter, IsJoin, IsReady, IsRp, Join, Listens, Pair, Wants, join_key, most_late, rpf_of}}

-- RPF'(*,G), or RPF'(S,G), of a router is the upper one of a pair
pub record GoesOver (x : Join) (g : ℕ) (c : Pair) (st : Station) : Type 0 where
  pub rp_known : IsRp x st.state g
  pub rpf : rpf_of x st.state g ≡ Some c.hop
  pub own : my_address st.state (c.hop).iface.number ≡ c.from
  pub linked : slice_get st.links (c.hop).iface.number ≡ Some c.link

-- so it is with the lower one, and the upper one hears it
pub record IsNextHop (x : Join) (g : ℕ) (c : Pair) (n : Network) : Type 0 where
  pub below : Station
  pub below_is : station_at n c.lower ≡ Some below
  pub goes_over : GoesOver x g c below
  pub above : Station
  pub above_is : station_at n c.upper ≡ Some above
  pub listens : Listens x g c above

-- While the lower one wants the group, or the source, RPF' holds it from 2 d after the end of the lower one's present Join timer on, and
-- without end, whether it held it before or not.
abbrev pub JoinsOverRpfAreHeld : Type 0
JoinsOverRpfAreHeld = (x : Join) (g d : ℕ) (started : ℕ → ℕ) (c : Pair) (n : Network) (ms : List Move) (st : Station) (row : JoinTimerRow)
    → IsJoin x g → d < most_late → (c.lower == c.upper) ≡ false → IsReady c.lower n → IsReady c.upper n → Always (IsNextHop x g c) n ms
    → AreInTime x g d started c n ms → Always (Wants x g c.lower) n ms → station_at n c.lower ≡ Some st
    → row_at (st.state).join_timers (join_key x 0 g) ≡ Some row → IsHeldAfter x g started c (row.end + started c.lower + 2 * d) n ms
