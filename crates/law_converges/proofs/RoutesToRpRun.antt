-- The premises, computed by their tests.
use Rattle.std.{proofs.Common.{Bool, List, Some, [], arith, inl, inr, lit≤, map, refl, suc, true, zero, ℕ, ◌&&◌, ◌≡◌, ◌≤◌}, specs.{Cmp.{first_so, second_so}, List.AllByRecursion}}
use Rattle.pim_model.{specs.Network.{Move, Network, network_ran}}
use Rattle.law_streams.{specs.{InTimeJoins.{Always, IsHeld, IsUnlost, Wants}, Joins.join_packet}}
use Rattle.pim_runs.{proofs.OnLiterals.machine_on_literals, specs.{Base.rp, InTime.started, ServedChain.asked_group}}
use Rattle.law_converges.{proofs.{CarriedNetworkRun.{on_high, plan_is_quiet}, CarriedTests.{each_move_so, move_test}, CarriedWaysRun.plan_is_open, JoinTests.{first_test, first_wants, near_of, near_test, unlost_of, unlost_test}, KeepsTests.{joiners_so, joiners_test}, LinkDr.always_more, Past.{later_past, same_past, throughout_past}, RouteTests.{by_route, by_route_so, ends_at, ends_so, named_so, routed_so}, RoutedWays.every_want_is_served_once, RoutesToRp.{all_meet, both_always, every_want_is_held_to_rp, routes_lead_to_rp}, Tested.{always_so, ends_past, past_so, past_test, run_test}}, specs.{Carried.EachMove, CarriedNetwork.{AreOn, HopIsQuiet, HopOn, IsOneLan, JoinIsQuiet, JoinOver, LanIsQuiet, WayIsQuiet, joining_on}, CarriedNetworkRun.{before, bound, farther_joins, farther_on_high, high_lan, lag, limit, moves, nearer_joins, nearer_on_high, none_came, plan, rp_on_high, soon, source_there, star, traffic, way}, CarriedWays.{AreOnTree, pair_on}, CarriedWaysRun.{its_hop, to_host}, ComesOnce.Forwards, Past.HoldsPast, RoutedWays.{IsFree, PassesDown}, RpfJoins.IsNextHop, RoutesToRp.{AllCanJoin, AreRouted, CanJoin, EndsAt, IsChosen, IsNamed, IsRouted, JoinIsOfLan, LeadsUp, RoutesLead, WantsFrom, hops_up}, RoutesToRpRun.{FartherIsHeldToRp, NearerIsServedOnce, RoutesLeadOnPlan, farther_hop, hops_away, routing}, Settles.{Joining, routers}}}

-- ---- the routes

abbrev farther_joining : Joining
farther_joining = joining_on high_lan farther_joins

farther_near : near_test soon bound started farther_joining before ≡ true
unfolding machine_on_literals join_packet
farther_near = refl

farther_unlost : unlost_test soon bound started farther_joining before moves ≡ true
unfolding machine_on_literals join_packet
farther_unlost = refl

farther_first : first_test soon bound started farther_joining before moves ≡ true
unfolding machine_on_literals join_packet
farther_first = refl

rp_there : run_test (ends_at rp 2) (λ n m next ms. true) before moves ≡ true
unfolding machine_on_literals join_packet
rp_there = refl

high_quiet : LanIsQuiet soon soon bound started traffic none_came before moves high_lan
high_quiet = ((plan_is_quiet).lans).1.0

nearer_quiet : JoinIsQuiet soon bound started traffic before moves high_lan nearer_joins
nearer_quiet = ((high_quiet).joins).0

farther_quiet : JoinIsQuiet soon bound started traffic before moves high_lan farther_joins
farther_quiet = ((high_quiet).joins).1.0

nearer_hop : HopIsQuiet star asked_group traffic plan.lans before moves its_hop
nearer_hop = ((((plan_is_quiet).ways).0).hops).1

nearer_routed : Always (IsRouted star asked_group its_hop) before moves
nearer_routed =
    always_more (IsNextHop star asked_group (pair_on its_hop)) (IsRouted star asked_group its_hop) (routed_so star asked_group its_hop) moves before
    (nearer_quiet).there

farther_routed : Always (IsRouted star asked_group farther_hop) before moves
farther_routed =
    always_more (IsNextHop star asked_group (pair_on farther_hop)) (IsRouted star asked_group farther_hop) (routed_so star asked_group farther_hop)
    moves before (farther_quiet).there

-- both routes name the RP, and no assert is lost
abbrev pub names_rp : Network → Bool
names_rp n = by_route star asked_group its_hop n && by_route star asked_group farther_hop n

they_name : run_test names_rp (λ n m next ms. true) before moves ≡ true
unfolding machine_on_literals join_packet
they_name = refl

pub names_nearer : (n : Network) → names_rp n ≡ true → by_route star asked_group its_hop n ≡ true
names_nearer n e = first_so (by_route star asked_group its_hop n) (by_route star asked_group farther_hop n) e

pub names_farther : (n : Network) → names_rp n ≡ true → by_route star asked_group farther_hop n ≡ true
names_farther n e = second_so (by_route star asked_group its_hop n) (by_route star asked_group farther_hop n) e

pub named_past : (h : HopOn) → ((n : Network) → names_rp n ≡ true → by_route star asked_group h n ≡ true)
    → HoldsPast started bound (IsNamed star asked_group h) before moves
named_past h part =
    throughout_past started bound (IsNamed star asked_group h) moves before
    (always_so names_rp (λ n m next ms. true) (IsNamed star asked_group h) (λ n e. named_so star asked_group h n (part n e)) moves before they_name)

chosen_by : (h : HopOn) → ((n : Network) → names_rp n ≡ true → by_route star asked_group h n ≡ true)
    → Always (IsUnlost star asked_group (pair_on h)) before moves → HoldsPast started bound (IsChosen star asked_group h) before moves
chosen_by h part unlost =
    throughout_past started bound (IsChosen star asked_group h) moves before
    (both_always (λ n. by_route star asked_group h n ≡ true) (IsUnlost star asked_group (pair_on h)) (IsChosen star asked_group h)
    (by_route_so star asked_group h) moves before
    (always_so names_rp (λ n m next ms. true) (λ n. by_route star asked_group h n ≡ true) part moves before they_name) unlost)

nearer_chosen : HoldsPast started bound (IsChosen star asked_group its_hop) before moves
nearer_chosen = chosen_by its_hop names_nearer (nearer_hop).unlost

farther_chosen : HoldsPast started bound (IsChosen star asked_group farther_hop) before moves
farther_chosen = chosen_by farther_hop names_farther (unlost_of soon bound started farther_joining before moves farther_unlost)

same_number : (a b : ℕ) → Some a ≡ Some b → a ≡ b
same_number a b e = cc e

pub none_there : {A : Type 0} (k : ℕ) → Some 0 ≡ Some (suc k) → A
none_there k e = let same : 0 ≡ suc k = same_number 0 (suc k) e in absurd (omega (arith, same))

some_there : {A : Type 0} (k : ℕ) → Some (suc k) ≡ Some 0 → A
some_there k e = let same : suc k ≡ 0 = same_number (suc k) 0 e in absurd (omega (arith, same))

-- of any network and moves, so that none is computed here
module _ (n : Network) (ms : List Move) where
  top_of : Always (EndsAt star asked_group 2) n ms → (r : ℕ) → hops_away r ≡ Some 0 → Always (EndsAt star asked_group r) n ms
  top_of f zero e = some_there 0 e
  top_of f (suc zero) e = some_there 0 e
  top_of f (suc (suc zero)) e = f
  top_of f (suc (suc (suc r))) e = cc e

  -- a router that is one hop away
  one_away : (r k : ℕ) → ((routing.next r).lower).router ≡ r → IsOneLan plan.lans (routing.next r).lan
      → AreOn (routing.next r).lan (routing.next r).lower (routing.next r).upper → hops_away ((routing.next r).upper).router ≡ Some 0
      → Always (IsRouted star asked_group (routing.next r)) n ms → LeadsUp star asked_group plan.lans routing n ms r k
  one_away r k from among on end routed = record {
    from = from;
    among = among;
    on = on;
    rest = 0;
    nearer = omega arith;
    distance = end;
    routed = routed;
  }

  up_of : AreOn high_lan nearer_on_high rp_on_high → AreOn high_lan farther_on_high rp_on_high → Always (IsRouted star asked_group its_hop) n ms
      → Always (IsRouted star asked_group farther_hop) n ms → (r k : ℕ) → hops_away r ≡ Some (suc k)
      → LeadsUp star asked_group plan.lans routing n ms r k
  up_of a b f g zero k e = one_away zero k refl (inr (inl refl)) a refl f
  up_of a b f g (suc zero) k e = one_away (suc zero) k refl (inr (inl refl)) b refl g
  up_of a b f g (suc (suc zero)) k e = none_there k e
  up_of a b f g (suc (suc (suc r))) k e = cc e

pub each_of : (P : HopOn → Type 0) → P its_hop → P farther_hop → (r k : ℕ) → hops_away r ≡ Some (suc k) → P (routing.next r)
each_of P f g zero k e = f
each_of P f g (suc zero) k e = g
each_of P f g (suc (suc zero)) k e = none_there k e
each_of P f g (suc (suc (suc r))) k e = cc e

rp_ends : Always (EndsAt star asked_group 2) before moves
rp_ends = always_so (ends_at rp 2) (λ n m next ms. true) (EndsAt star asked_group 2) (ends_so rp asked_group 2) moves before rp_there

lead : RoutesLead star asked_group plan.lans routing before moves
lead = record {
  top = top_of before moves rp_ends;
  up = up_of before moves (nearer_quiet).on (farther_quiet).on nearer_routed farther_routed;
}

nearer_joiners : move_test (joiners_test soon bound started traffic (on_high nearer_joins) (routers (high_lan).link)) before moves ≡ true
unfolding machine_on_literals join_packet
nearer_joiners = refl

farther_joiners : move_test (joiners_test soon bound started traffic (on_high farther_joins) (routers (high_lan).link)) before moves ≡ true
unfolding machine_on_literals join_packet
farther_joiners = refl

joiners_of : (j : JoinOver) → move_test (joiners_test soon bound started traffic (on_high j) (routers (high_lan).link)) before moves ≡ true
    → EachMove (JoinIsOfLan j.join j.group (routers (high_lan).link) (on_high j).pair) before moves
joiners_of j e =
    each_move_so (joiners_test soon bound started traffic (on_high j) (routers (high_lan).link))
    (JoinIsOfLan j.join j.group (routers (high_lan).link) (on_high j).pair)
    (joiners_so soon bound started traffic (on_high j) (routers (high_lan).link)) moves before e

can_join : AllCanJoin star asked_group traffic routing before moves
can_join = record {
  addresses = (nearer_quiet).addresses;
  join = each_of (CanJoin star asked_group traffic before moves)
      (record { near = (nearer_hop).near; keeps = (nearer_hop).keeps; joiners = joiners_of nearer_joins nearer_joiners })
      (record {
        near = near_of soon bound started farther_joining before farther_near;
        keeps = (farther_quiet).keeps;
        joiners = joiners_of farther_joins farther_joiners;
      });
}

pub routes_lead_on_plan : RoutesLeadOnPlan
routes_lead_on_plan = (
  lead,
  each_of (λ h. HoldsPast started bound (IsChosen star asked_group h) before moves) nearer_chosen farther_chosen,
  can_join,
)

-- ---- so there is a way

end_is_past : past_test started (λ q r. refl) limit (network_ran before moves).1 ≡ true
unfolding machine_on_literals join_packet
end_is_past = refl

are_routed : AreRouted star asked_group soon soon bound started traffic none_came plan.lans routing before moves
are_routed = record {
  few = (plan_is_quiet).few;
  meet = all_meet soon soon bound started traffic none_came before moves plan.lans (plan_is_quiet).lans;
  lead = (routes_lead_on_plan).0;
  chosen = (routes_lead_on_plan).1;
}

-- of any moves, so that none is computed here
from_then : (r : ℕ) (n : Network) (ms : List Move) → Always (Wants star asked_group r) n ms → WantsFrom star asked_group soon lag started bound limit r 1 n ms
from_then r n ms f = record {
  first = 299850;
  wants = throughout_past started 299850 (Wants star asked_group r) ms n f;
  later = lit≤ tt;
  by = lit≤ tt;
}

farther_wants : WantsFrom star asked_group soon lag started bound limit 1 1 before moves
farther_wants = from_then 1 before moves (first_wants soon bound started farther_joining before moves farther_first)

farther_held : HoldsPast started limit (λ o. AllByRecursion (λ c. IsHeld star asked_group c o) (map pair_on (hops_up routing 1 1))) before moves
farther_held =
    every_want_is_held_to_rp star asked_group soon soon lag bound limit started traffic none_came plan.lans routing before moves 1 1 are_routed
    (routes_lead_on_plan).2 (plan_is_quiet).together refl farther_wants

pub farther_is_held_to_rp : FartherIsHeldToRp
farther_is_held_to_rp = (
  farther_wants,
  routes_lead_to_rp star asked_group soon soon bound started traffic none_came plan.lans routing before moves 1 1 are_routed refl,
  refl,
  (ends_past started limit (λ o. AllByRecursion (λ c. IsHeld star asked_group c o) (map pair_on (hops_up routing 1 1))) _ _ before farther_held
      (past_so started (λ q r. refl) limit (network_ran before moves).1 end_is_past)).0,
)

-- ---- down the first router's way

given : WayIsQuiet soon lag bound started traffic plan.lans before moves way
given = ((plan_is_quiet).ways).0

no_sooner : bound ≤ limit
no_sooner = lit≤ tt

passes_down : PassesDown asked_group source_there started limit before moves its_hop [] to_host
passes_down = record {
  free = same_past started limit (AreOnTree asked_group source_there its_hop []) (IsFree asked_group source_there its_hop)
      (λ x c. record { station = c.station; there = c.there; unlost = c.source; unpruned = c.unpruned; single = (c.one).single }) moves before
      (later_past started limit bound no_sooner (AreOnTree asked_group source_there its_hop []) moves before ((plan_is_open).0).tree);
  self = refl;
  above = refl;
  passes = later_past started limit bound no_sooner (Forwards asked_group source_there to_host) moves before ((plan_is_open).0).passes;
}

pub nearer_is_served_once : NearerIsServedOnce
nearer_is_served_once = (
  refl,
  passes_down,
  (every_want_is_served_once asked_group rp soon soon lag bound limit started traffic none_came plan routing before moves 0 1 plan_is_quiet
      (routes_lead_on_plan).0 (routes_lead_on_plan).1 (routes_lead_on_plan).2 refl (from_then 0 before moves (given).wants) its_hop [] refl).served
      source_there to_host passes_down,
)
