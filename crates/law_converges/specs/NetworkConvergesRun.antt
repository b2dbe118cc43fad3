-- The two LANs and the RP, with two receivers: all that convergence asks for at once. Computed by the kernel.
use Rattle.std.{specs.Prelude.{List, [], ◌∷◌}}
use Rattle.pim_runs.{specs.{Base.rp, InTime.started, ServedChain.asked_group}}
use Rattle.law_converges.{specs.{AskedByMembersRun.{plan_distance, plan_limit, plan_tick}, CarriedNetworkRun.{before, bound, far_source, lag, limit, low_lan, moves, nearer_on_low, none_came, soon, traffic}, CarriedWaysRun.its_hop, LeftLinksRun.wanted_for, MemberLinksRun.{farther_on_own, other_hop, own_lan, served_plan}, NetworkConverges.{Distances, HasConverged, IsConverging, MemberWay, Times}, RoutesToRpRun.routing}}

abbrev pub plan_times : Times
plan_times = record {
  d = soon;
  late = soon;
  lag = lag;
  tick = plan_tick;
  life = wanted_for;
  bound = bound;
  limit = limit;
  over = plan_limit;
}

-- The winner of the assert serves the first LAN, and the second router its own link; the RP is the next hop of both.
abbrev pub both_ways : List MemberWay
both_ways =
    record { lan = low_lan; router = nearer_on_low; distance = 1; hop = its_hop; hops = [] }
    ∷ record { lan = own_lan; router = farther_on_own; distance = 1; hop = other_hop; hops = [] } ∷ []

abbrev pub plan_distances : Distances
plan_distances = record { of = plan_distance; from_rp = 1; from_source = 0 }

abbrev pub PlanIsConverging : Type 0
PlanIsConverging =
    IsConverging asked_group far_source rp plan_times started traffic none_came served_plan routing both_ways plan_distances before moves

abbrev pub PlanHasConverged : Type 0
PlanHasConverged = HasConverged asked_group far_source rp plan_times started traffic served_plan both_ways plan_distances before moves
