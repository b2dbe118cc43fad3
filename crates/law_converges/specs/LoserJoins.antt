-- Who has lost an assert on the LAN that is its way to the RP, or to the source, joins over the winner (RFC 7761, 4.1.5, 4.5.4, 4.6.1 and
-- 4.6.2).
use Rattle.std.{specs.Prelude.{List, ℕ, ◌<◌}}
use Rattle.pim_types.{specs.declared.fact.AssertMetric.AssertMetric}
use Rattle.pim_model.{specs.Network.{Move, Network}}
use Rattle.law_streams.{specs.InTimeJoins.{Always, IsJoin, Join, Source, Star}}
use Rattle.law_converges.{specs.{Carried.{Arrivals, Traffic}, CarriedLinks.Yields, CarriedNetwork.{AreOn, HopOn, number_of}, LinkDr.between, LinkLosers.{AssertsBy, most_late_assert}, Past.HoldsPast, RoutesToRp.{IsChosen, IsRouted, IsRpf, LanMeets}}}

-- the source of the assert about what is joined: that of a group has 0.0.0.0
abbrev pub source_number : Join → ℕ
source_number (Star rp) = 0
source_number (Source src) = src

-- The upper router of a hop wins the assert of what is joined on the LAN, and its next Assert is due 2 d before a bound at the latest; the
-- lower one gives way to it. That the LAN is the lower one's way to the RP, or to the source, is no matter.
pub record YieldsTo (x : Join) (g d bound : ℕ) (started : ℕ → ℕ) (h : HopOn) (n : Network) (ms : List Move) : Type 0 where
  pub few : d < most_late_assert
  pub metric : AssertMetric
  pub yields : Yields g (source_number x) metric (between (number_of h.lan) h.upper h.lower) n ms
  pub by : AssertsBy g (source_number x) metric d bound started (between (number_of h.lan) h.upper h.lower) n

-- From the bound on the lower one has lost the assert to the upper one; and where the LAN is its way to the RP, or to the source, the upper
-- one is its RPF'.
pub record JoinsWinner (x : Join) (g bound : ℕ) (started : ℕ → ℕ) (h : HopOn) (n : Network) (ms : List Move) : Type 0 where
  pub chosen : HoldsPast started bound (IsChosen x g h) n ms
  pub rpf : Always (IsRouted x g h) n ms → HoldsPast started bound (IsRpf x g h) n ms

-- So it is on a LAN that carries what is sent on it.
abbrev pub LoserJoinsWinner : Type 0
LoserJoinsWinner = (x : Join) (g d late bound : ℕ) (started : ℕ → ℕ) (t : Traffic) (came : Arrivals) (n : Network) (ms : List Move) (h : HopOn)
    → IsJoin x g → LanMeets d late bound started t came n ms h.lan → AreOn h.lan h.lower h.upper → YieldsTo x g d bound started h n ms
    → JoinsWinner x g bound started h n ms
