-- The premises are those of the runs of each part.
use Rattle.std.{proofs.Common.{Bool, None, cond, false, lit≤, refl, true, ℕ, ◌==◌, ◌≡◌, ◌≤◌}}
use Rattle.pim_ip.{specs.Ipv4.is_link_local}
use Rattle.pim_runs.{proofs.OnLiterals.machine_on_literals, specs.{Base.rp, InTime.started, ServedChain.asked_group}}
use Rattle.law_converges.{proofs.{AskedByMembersRun.plan_is_asked, EachMemberRun.{both_are_reached, lead_over}, MemberLinksRun.{no_others_send, served_plan_is_quiet}, NetworkConverges.network_converges, RoutesToRpRun.routes_lead_on_plan}, specs.{AskedByMembersRun.plan_distance, CarriedNetworkRun.{before, far_source, moves, none_came, traffic}, MemberLinksRun.served_plan, NetworkConvergesRun.{PlanHasConverged, PlanIsConverging, both_ways, plan_distances, plan_times}, RoutesToRpRun.routing}}

far_enough : is_link_local asked_group ≡ false
unfolding machine_on_literals
far_enough = refl

one_away : (r : ℕ) → plan_distance None r ≤ 1
one_away r = go (r == 2)
  where
    go : (b : Bool) → cond b 0 1 ≤ 1
    go true = lit≤ tt
    go false = lit≤ tt

pub plan_is_converging : PlanIsConverging
plan_is_converging = record {
  goes_far = far_enough;
  quiet = served_plan_is_quiet;
  members = (no_others_send).0;
  lead = lead_over before moves (routes_lead_on_plan).0;
  over_rpf = (both_are_reached).0;
  joins = (routes_lead_on_plan).2;
  reached = ((both_are_reached).1, ((both_are_reached).2, tt));
  asked = (plan_is_asked).0;
  sent = (plan_is_asked).1;
  up = (plan_is_asked).2;
  near_rp = one_away;
  near_source = λ r. lit≤ tt;
}

pub plan_has_converged : PlanHasConverged
plan_has_converged =
    network_converges asked_group far_source rp plan_times started traffic none_came served_plan routing both_ways plan_distances before moves
    plan_is_converging
