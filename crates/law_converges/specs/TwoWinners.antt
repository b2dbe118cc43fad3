-- Two routers of a link that both are the winner of an assert: by the next Assert of one of them the other is it no longer (RFC 7761, 4.6.1,
-- 4.6.2, 4.6.3 and 4.11).
use Rattle.std.{specs.Prelude.{List, Some, [], false, slice_get, true, ℕ, ◌==◌, ◌∷◌, ◌≡◌}}
use Rattle.pim_ip.{specs.Addr.addr}
use Rattle.pim_types.{specs.declared.fact.{AssertMetric.AssertMetric, AssertRow.AssertRow}}
use Rattle.pim_model.{specs.{Full.is_full, Network.{Deliver, Move, Network, Station, frame_at, moved, station_at}, Sets.{is_better, is_winner}, Tables.row_at, declared.accepted.Accepted.Accepted}}
use Rattle.law_streams.{specs.{Adjacent.Adjacent, InTimeJoins.IsBy, Joins.Hears}}
use Rattle.law_converges.{specs.{Carried.{Arrivals, EachMove, IsCarried, Traffic}, LinkAsserts.{IsSayable, assert_packet, is_about, said}, LinkDr.{IsOne, Member, between}, LinkLosers.{AssertsBy, Wins, loser_key, winner_of}}}

-- both are the winner, and the first one's metric is better than that with which the other one won
pub record BothWin (g src : ℕ) (metric : AssertMetric) (c : Adjacent) (n : Network) : Type 0 where
  pub first : Wins g src metric c n
  pub station : Station
  pub there : station_at n c.upper ≡ Some station
  pub row : AssertRow
  pub found : row_at (station.state).asserts (loser_key g src metric c) ≡ Some row
  pub wins : is_winner (Some row) ≡ true
  pub worse : is_better (winner_of g src metric c) row.winner ≡ true

-- the other one can hear the first one's Assert, and has room
pub record HearsAssert (g src : ℕ) (metric : AssertMetric) (c : Adjacent) (n : Network) : Type 0 where
  pub station : Station
  pub there : station_at n c.upper ≡ Some station
  pub linked : slice_get station.links c.down ≡ Some c.link
  pub hears : Hears station.state c.down c.address
  pub room : is_full station.state (Accepted.Assert (record { number = c.down }) (addr c.address) (said g src metric)) ≡ false

-- so it is where a move brings it one
abbrev pub CanHear : (g src : ℕ) → AssertMetric → Adjacent → Network → Move → Type 0
CanHear g src metric c n m = (number draw : ℕ) → m ≡ Deliver c.upper c.down number draw
    → frame_at n number ≡ Some (record { link = Some c.link; bytes = assert_packet c.address g src metric }) → HearsAssert g src metric c n

-- What is sent on the link comes to all of its routers within d, and no timer is more than `late` late, which is at most d; to begin with both
-- are the winner, and the first one's Assert Timer expires 2 d before a bound at the latest.
pub record AreTwoWinners (g src : ℕ) (metric : AssertMetric) (d late bound : ℕ) (started : ℕ → ℕ) (t : Traffic) (came : Arrivals) (link : ℕ)
    (members : List Member) (x y : Member) (first : ℕ) (n : Network) (ms : List Move) : Type 0 where
  pub carried : IsCarried d late started t came link members first n ms
  pub among : IsOne members y
  pub apart : (x.router == y.router) ≡ false
  pub sayable : IsSayable x.address g src metric
  pub about : is_about (said g src metric) ≡ true
  pub hears : EachMove (CanHear g src metric (between link x y)) n ms
  pub both : BothWin g src metric (between link x y) n
  pub by : AssertsBy g src metric d bound started (between link x y) n

-- after each move up to which both are the winner the other one's time isn't past the bound
abbrev pub OneGoesBy : (g src : ℕ) → AssertMetric → (bound : ℕ) → (ℕ → ℕ) → Adjacent → Network → List Move → Type 0
OneGoesBy g src metric bound started c n [] = Unit {0}
OneGoesBy g src metric bound started c n (m ∷ ms) =
    BothWin g src metric c (moved n m).1 → IsBy started c.upper bound (moved n m).1 × OneGoesBy g src metric bound started c (moved n m).1 ms

-- Both aren't the winner any longer than until 2 d after the Assert Timer of that with the better metric expires.
abbrev pub OneWinnerGoes : Type 0
OneWinnerGoes = (g src : ℕ) (metric : AssertMetric) (d late bound : ℕ) (started : ℕ → ℕ) (t : Traffic) (came : Arrivals) (link : ℕ)
    (members : List Member) (x y : Member) (first : ℕ) (n : Network) (ms : List Move)
    → AreTwoWinners g src metric d late bound started t came link members x y first n ms
    → OneGoesBy g src metric bound started (between link x y) n ms
