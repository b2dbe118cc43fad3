-- On the first of the two LANs the winner of the assert alone sends the packet. Computed by the kernel.
use Rattle.pim_model.{specs.Network.{Deliver, Move, Network, moved}}
use Rattle.pim_runs.{specs.ServedChain.asked_group}
use Rattle.law_converges.{specs.{AloneByAssert.{AreOfContest, BringsWhatIsLost}, CarriedNetwork.contest_on, CarriedNetworkRun.{by_register, claim, low_lan, source_there}, CarriedWaysRun.sent_again, ComesOnce.IsAlone, Settles.HasOneSender}}

-- The second router of the LANs hears the RP's frame on the second one. It has lost the assert of the group on the first one, and doesn't
-- take the packet on the source's own tree: so the first router alone sends it on the first LAN.
abbrev pub heard : Network
heard = (moved sent_again by_register).1

abbrev pub hears_it : Move
hears_it = Deliver 1 1 56 7

abbrev pub WinnerAloneOnPlan : Type 0
WinnerAloneOnPlan =
    HasOneSender heard (contest_on low_lan claim)
    × AreOfContest (contest_on low_lan claim) heard
    × BringsWhatIsLost asked_group source_there (contest_on low_lan claim) heard hears_it
    × IsAlone asked_group source_there 0 1 heard hears_it
