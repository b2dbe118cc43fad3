-- The premises are those of the first LAN, and that the farther one is a winner to begin with, computed.
use Rattle.std.{proofs.Common.{inl, inr, refl, true, ◌≡◌}}
use Rattle.pim_types.{specs.declared.fact.{AssertRole.AssertRole}}
use Rattle.pim_model.{specs.{Network.{Move, Network}, Sets.metric_of}}
use Rattle.law_streams.{proofs.Computed.{stand, stands_there}, specs.Joins.join_packet}
use Rattle.pim_runs.{proofs.OnLiterals.machine_on_literals, specs.{InTime.started, ServedChain.asked_group}}
use Rattle.law_converges.{proofs.{AloneOnLink.each_move_more, CarriedNetworkRun.{low_quiet, nowhere}, ClaimTests.{due_so, due_test}, LinkJoins.first_of, TwoWinners.one_winner_goes}, specs.{CarriedLinks.{GivesWay, LoserKeeps, Yields}, CarriedNetworkRun.{before, farther_low, farther_on_low, its_metric, low_lan, moves, nearer_on_low, none_came, soon, traffic}, LinkDr.between, LinkLosers.Wins, Settles.routers, TwoWinners.{BothWin, CanHear}, TwoWinnersRun.{BothWinAtFirst, FartherGoes, one_goes}}}

its_yields : Yields asked_group 0 its_metric (between 1 nearer_on_low farther_on_low) before moves
its_yields = ((((low_quiet).claims).0).losers.0).yields

is_due : due_test soon one_goes started asked_group 0 its_metric (between 1 nearer_on_low farther_on_low) before ≡ true
unfolding machine_on_literals join_packet
is_due = refl

farther_wins : BothWin asked_group 0 its_metric (between 1 nearer_on_low farther_on_low) before
unfolding machine_on_literals join_packet
farther_wins = record {
  first = first_of (Wins asked_group 0 its_metric (between 1 nearer_on_low farther_on_low)) before moves (its_yields).wins;
  station = stand nowhere before 1;
  there = stands_there nowhere before 1 refl;
  row = record { role = AssertRole.Winner; winner = metric_of true 110 21 farther_low; end = 268000 };
  found = refl;
  wins = refl;
  worse = refl;
}

-- of any network and moves, so that none is computed here
hears_so : (n : Network) (m : Move) → LoserKeeps asked_group 0 its_metric (between 1 nearer_on_low farther_on_low) n m
    → CanHear asked_group 0 its_metric (between 1 nearer_on_low farther_on_low) n m
hears_so n m keeps number draw is framed =
    let h : GivesWay asked_group 0 its_metric (between 1 nearer_on_low farther_on_low) draw n = keeps.gives number draw is framed in
    record { station = h.station; there = h.there; linked = (h.can).linked; hears = (h.can).hears; room = (h.can).room }

pub both_win_at_first : BothWinAtFirst
both_win_at_first = record {
  carried = (low_quiet).carried;
  among = inr (inl refl);
  apart = refl;
  sayable = (its_yields).sayable;
  about = (its_yields).about;
  hears = each_move_more (LoserKeeps asked_group 0 its_metric (between 1 nearer_on_low farther_on_low))
      (CanHear asked_group 0 its_metric (between 1 nearer_on_low farther_on_low)) hears_so moves before (its_yields).hears;
  both = farther_wins;
  by = due_so soon one_goes started asked_group 0 its_metric (between 1 nearer_on_low farther_on_low) before is_due;
}

pub farther_goes : FartherGoes
farther_goes =
    one_winner_goes asked_group 0 its_metric soon soon one_goes started traffic none_came 1 (routers (low_lan).link) nearer_on_low farther_on_low 0
    before moves both_win_at_first
