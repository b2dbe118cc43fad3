-- The two receivers by the routes of the routers that serve them, and not by ways that are given. Computed by the kernel.
use Rattle.std.{specs.Prelude.{[], ◌∷◌}}
use Rattle.pim_runs.{specs.{Base.rp, InTime.started, ServedChain.asked_group}}
use Rattle.law_converges.{specs.{CarriedNetworkRun.{before, bound, far_source, lag, limit, low_lan, moves, nearer_on_low, soon, traffic}, CarriedWays.root_of, CarriedWaysRun.its_hop, ComesOnce.AllCameDown, EachMember.{EachComesOver, IsReached, IsServed}, MemberLinks.to_hosts, MemberLinksRun.{farther_on_own, other_hop, own_lan, served_plan}, Past.HoldsPastOn, RoutesToRpRun.routing}}

-- The winner of the assert serves the one, and the DR of the second router's own link the other; by the routes of both the RP is one hop
-- away, and they name it. The winner hears an Assert of the group, and one of the source, and neither is better than its own; no other
-- comes on the way, and nobody prunes the source.
abbrev pub BothAreReached : Type 0
BothAreReached =
    EachComesOver rp asked_group soon bound started routing before moves
    × IsReached asked_group far_source soon lag bound limit 1 started served_plan routing before moves low_lan nearer_on_low its_hop []
    × IsReached asked_group far_source soon lag bound limit 1 started served_plan routing before moves own_lan farther_on_own other_hop []

-- So both are served, as by the packet of the source far away, which a Register brings to the RP.
abbrev pub BothAreServed : Type 0
BothAreServed =
    IsServed asked_group far_source rp soon bound limit started traffic served_plan before moves low_lan nearer_on_low its_hop []
    × IsServed asked_group far_source rp soon bound limit started traffic served_plan before moves own_lan farther_on_own other_hop []

-- And nothing else of that source comes to either.
abbrev pub NothingElseComesToBoth : Type 0
NothingElseComesToBoth =
    HoldsPastOn started limit
    (AllCameDown asked_group far_source (root_of its_hop []) 1 (to_hosts low_lan nearer_on_low its_hop ∷ [])) before moves
    × HoldsPastOn started limit
    (AllCameDown asked_group far_source (root_of other_hop []) 4 (to_hosts own_lan farther_on_own other_hop ∷ [])) before moves
