-- The three routers in a line, once the host's group is joined all the way: a packet that comes to the RP comes to the host's link
-- once. Computed by the kernel.
use Rattle.std.{specs.{List.AllByRecursion, Prelude.{List, [], if◌then◌else◌, nat_le, ℕ, ◌==◌, ◌∷◌}}}
use Rattle.pim_model.{specs.{Network.{At, Deliver, Move, Network, moved, network_ran}}}
use Rattle.law_streams.{specs.Passing.Tree}
use Rattle.pim_runs.{specs.{InTime.started, ServedChain.{asked_group, content, register, sender}, Words.{address, advance, unicast}}}
use Rattle.law_converges.{specs.{Carried.{Arrivals, EachMove, IsSentBy, Traffic}, ComesOnce.{AreForwarding, ComesOnce, Forwarder, HearsAll, Root}, JoinedWaysRun.{all_to, joining, unjoined}, LinkDr.Member, Past.HoldsPast}}

-- the routers as those of their links
abbrev pub first_on_low : Member
first_on_low = record { router = 0; iface = 1; address = address 10 0 1 1; priority = 1 }

abbrev pub second_on_high : Member
second_on_high = record { router = 1; iface = 1; address = address 10 0 2 1; priority = 1 }

-- the first one passes the packets on to the host's link, and the second one to the link between both, on which the RP isn't
abbrev pub to_host : Forwarder
to_host = record { self = first_on_low; above = 1; down = 0; below = 3 }

abbrev pub to_first : Forwarder
to_first = record { self = second_on_high; above = 2; down = 0; below = 1 }

abbrev pub at_rp : Root
at_rp = record { tree = Tree.Shared; router = 2; down = 0; below = 2 }

-- all that was sent before has come, or is lost
abbrev pub all_joined : Network
all_joined = (network_ran unjoined joining).1

abbrev pub so_far : ℕ
so_far = 36

abbrev pub all_came : Arrivals
all_came r i = so_far

-- a millisecond passes at the first router, then a Register comes to the RP, and what leaves is delivered
abbrev pub first_move : Move
first_move = At 0 (advance 239002)

abbrev pub its_register : Move
its_register = At 2 (unicast register)

abbrev pub coming_down : List Move
coming_down = Deliver 1 1 37 7 ∷ Deliver 0 1 38 7 ∷ all_to 239202

abbrev pub traffic : Traffic
traffic = record {
  sent = λ k. if nat_le k 38 then 239001 else 239002;
  by = λ k. if k == 37 then 2 else if k == 38 then 1 else 0;
}

-- each frame comes within 100 ms
abbrev pub soon : ℕ
soon = 100

-- by this time the RP holds the group
abbrev pub joined_by : ℕ
joined_by = 239000

abbrev pub ChainForwards : Type 0
ChainForwards =
    EachMove (IsSentBy started traffic) all_joined (first_move ∷ its_register ∷ coming_down)
    × AllByRecursion (HearsAll soon started traffic all_came all_joined (first_move ∷ its_register ∷ coming_down)) (to_host ∷ to_first ∷ [])
    × HoldsPast started joined_by (AreForwarding asked_group sender at_rp 3 (to_host ∷ to_first ∷ [])) all_joined (first_move ∷ its_register ∷ coming_down)

-- So the packet, which comes to the RP with a TTL of 4, is on the host's link in exactly one frame, within 200 ms.
abbrev pub ChainServesOnce : Type 0
ChainServesOnce =
    ComesOnce asked_group sender 3 content 1 239201 traffic at_rp (to_host ∷ to_first ∷ []) (moved all_joined first_move).1 its_register coming_down
