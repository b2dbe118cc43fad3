-- Two receivers on links of the network that settles: one on the first LAN, which the winner of the assert serves, and one on the second
-- router's own link, which that serves as the DR. Computed by the kernel.
use Rattle.std.{specs.{List.AllByRecursion, Prelude.{[], ◌∷◌}}}
use Rattle.law_streams.{specs.InTimeJoins.{Star, Wants}}
use Rattle.pim_runs.{specs.{Base.rp, InTime.started, ServedChain.asked_group, Words.address}}
use Rattle.law_converges.{specs.{AloneOnLink.{AreMembers, ComesDownTheWay}, Carried.EachMove, CarriedNetwork.{HopOn, IsQuietPlan, Lan, Plan, number_of}, CarriedNetworkRun.{before, bound, far_source, farther_on_high, high_lan, lag, low_lan, moves, nearer_on_low, none_came, rp_on_high, soon, traffic}, CarriedWaysRun.its_hop, LinkDr.Member, LinkQuerierRun.settings, Past.{ArePast, HoldsPast}, Settles.routers}}

-- ---- the second router's own link

abbrev pub farther_on_own : Member
farther_on_own = record { router = 1; iface = 2; address = address 10 0 4 1; priority = 1 }

abbrev pub own_lan : Lan
own_lan = record {
  link = record { number = 4; first = farther_on_own; others = []; settings = settings; hold = 255000; groups = asked_group ∷ [] };
  joins = [];
  claims = [];
  wishes = [];
}

-- its next hop is the RP, too; the ways aren't given
abbrev pub other_hop : HopOn
other_hop = record { lan = high_lan; lower = farther_on_high; upper = rp_on_high }

abbrev pub served_plan : Plan
served_plan = record { lans = low_lan ∷ high_lan ∷ own_lan ∷ []; ways = [] }

abbrev pub ServedPlanIsQuiet : Type 0
ServedPlanIsQuiet = IsQuietPlan soon soon lag bound started traffic none_came served_plan before moves

-- ---- both are wanted

-- The winner of the assert serves the first LAN's host, and that link's DR, which hears no Assert, the other one. So both want the group.
abbrev pub BothAreWanted : Type 0
BothAreWanted =
    HoldsPast started bound (Wants (Star rp) asked_group 0) before moves × HoldsPast started bound (Wants (Star rp) asked_group 1) before moves

-- ---- nobody else sends there

-- Whoever is on a link is one of its routers. From the bound on the second router has lost the group's assert on the first LAN, on the
-- second one nobody asks either of both, and that is the only way in of both.
abbrev pub NoOthersSend : Type 0
NoOthersSend =
    AllByRecursion (λ (b : Lan). AreMembers (number_of b) (routers b.link) before) served_plan.lans
    × EachMove (λ n m. ArePast started bound n → ComesDownTheWay asked_group far_source low_lan nearer_on_low its_hop [] n m) before moves
    × EachMove (λ n m. ArePast started bound n → ComesDownTheWay asked_group far_source own_lan farther_on_own other_hop [] n m) before moves
