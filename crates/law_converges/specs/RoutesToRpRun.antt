-- On the two LANs the routes of both routers lead to the RP: their ways follow, and aren't given. Computed by the kernel.
use Rattle.std.{specs.Prelude.{None, Option, Some, [], suc, zero, ℕ, ◌∷◌, ◌≡◌}}
use Rattle.pim_model.{specs.Network.network_ran}
use Rattle.law_streams.{specs.InTimeJoins.IsHeld}
use Rattle.pim_runs.{specs.{InTime.started, ServedChain.asked_group}}
use Rattle.law_converges.{specs.{CarriedNetwork.HopOn, CarriedNetworkRun.{before, bound, farther_on_high, high_lan, lag, limit, moves, plan, rp_on_high, soon, source_there, star, traffic}, CarriedWays.{pair_on, root_of}, CarriedWaysRun.{its_hop, to_host}, ComesOnce.AreServedOnce, Past.HoldsPastOn, RoutedWays.PassesDown, RoutesToRp.{AllCanJoin, AreChosen, HasWayUp, RoutesLead, Routing, WantsFrom, hops_up}}}

-- the RP as the next hop of the second router
abbrev pub farther_hop : HopOn
farther_hop = record { lan = high_lan; lower = farther_on_high; upper = rp_on_high }

abbrev pub next_hop : ℕ → HopOn
next_hop zero = its_hop
next_hop (suc r) = farther_hop

-- both are one hop from the RP
abbrev pub hops_away : ℕ → Option ℕ
hops_away zero = Some 1
hops_away (suc zero) = Some 1
hops_away (suc (suc zero)) = Some 0
hops_away (suc (suc (suc r))) = None

abbrev pub routing : Routing
routing = record { next = next_hop; distance = hops_away }

-- The routes lead to the RP, from the bound on they name it, and no assert of the group is lost there, and each router can join.
abbrev pub RoutesLeadOnPlan : Type 0
RoutesLeadOnPlan =
    RoutesLead star asked_group plan.lans routing before moves
    × AreChosen star asked_group bound started routing before moves
    × AllCanJoin star asked_group traffic routing before moves

-- So the RP is the one next hop of the second router's way, and holds what it joins at the end: it wants the group from when what was sent
-- before the bound has come.
abbrev pub FartherIsHeldToRp : Type 0
FartherIsHeldToRp =
    WantsFrom star asked_group soon lag started bound limit 1 1 before moves
    × HasWayUp star asked_group bound started plan.lans routing before moves 1 1
    × (hops_up routing 1 1 ≡ farther_hop ∷ [])
    × IsHeld star asked_group (pair_on farther_hop) (network_ran before moves).1

-- The way of the first router, by the routes, is the one that is given in the plan, nothing keeps the source's packets from it, and
-- down it each comes once.
abbrev pub NearerIsServedOnce : Type 0
NearerIsServedOnce =
    (hops_up routing 1 0 ≡ its_hop ∷ [])
    × PassesDown asked_group source_there started limit before moves its_hop [] to_host
    × HoldsPastOn started limit (AreServedOnce asked_group source_there soon started traffic (root_of its_hop []) 1 (to_host ∷ [])) before moves
