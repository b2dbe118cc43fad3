-- On the two LANs each packet of the source that comes to the RP comes once to the first one. Computed by the kernel.
use Rattle.std.{specs.Prelude.{[], ◌∷◌}}
use Rattle.pim_model.{specs.Network.{At, Network, moved, network_ran}}
use Rattle.pim_runs.{specs.{Base.rp, InTime.started, ServedChain.{asked_group, content}}}
use Rattle.law_converges.{specs.{Carried.EachMove, CarriedNetwork.HopOn, CarriedNetworkRun.{before, bound, by_register, high_lan, moves, nearer_on_high, plan, rp_on_high, serving, source_sends, source_there, traffic, until_then}, CarriedWays.{IsOpen, root_of}, ComesOnce.{AllCameDown, AreAlonePast, ComesOnce, Forwarder}, Past.HoldsPastOn}}

-- the RP as the next hop of the first router, which passes the packets on to the first LAN's host
abbrev pub its_hop : HopOn
its_hop = record { lan = high_lan; lower = nearer_on_high; upper = rp_on_high }

abbrev pub to_host : Forwarder
to_host = record { self = nearer_on_high; above = 2; down = 0; below = 1 }

-- From the bound on nothing keeps the packets back, and no other router sends them on either LAN.
abbrev pub PlanIsOpen : Type 0
PlanIsOpen =
    IsOpen asked_group source_there rp 0 bound started plan before moves its_hop [] to_host
    × EachMove (AreAlonePast asked_group source_there started bound (root_of its_hop []) 1 (to_host ∷ [])) before moves

-- when the source has sent its second packet
abbrev pub sent_again : Network
sent_again = (moved (network_ran before until_then).1 (At 1 source_sends)).1

-- So that packet, which the Register brings to the RP with a TTL of 15, is on the first LAN in exactly one frame, within 100 ms.
abbrev pub PlanServesOnce : Type 0
PlanServesOnce = ComesOnce asked_group source_there 1 content 13 402451 traffic (root_of its_hop []) (to_host ∷ []) sent_again by_register serving

-- And nothing else of the source comes there.
abbrev pub PlanBringsNothingElse : Type 0
PlanBringsNothingElse = HoldsPastOn started bound (AllCameDown asked_group source_there (root_of its_hop []) 1 (to_host ∷ [])) before moves
