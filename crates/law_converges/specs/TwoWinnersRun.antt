-- On the first of the two LANs both routers take themselves for the winner of the group's assert, until the nearer one's Assert comes. Computed
-- by the kernel.
use Rattle.std.{specs.Prelude.ℕ}
use Rattle.pim_runs.{specs.{InTime.started, ServedChain.asked_group}}
use Rattle.law_converges.{specs.{CarriedNetworkRun.{before, farther_on_low, its_metric, low_lan, moves, nearer_on_low, none_came, soon, traffic}, LinkDr.between, Settles.routers, TwoWinners.{AreTwoWinners, OneGoesBy}}}

-- its timer expires at 268 s
abbrev pub one_goes : ℕ
one_goes = 268200

abbrev pub BothWinAtFirst : Type 0
BothWinAtFirst =
    AreTwoWinners asked_group 0 its_metric soon soon one_goes started traffic none_came 1 (routers (low_lan).link) nearer_on_low farther_on_low 0 before
    moves

-- So both aren't the winner past 268.2 s.
abbrev pub FartherGoes : Type 0
FartherGoes = OneGoesBy asked_group 0 its_metric one_goes started (between 1 nearer_on_low farther_on_low) before moves
