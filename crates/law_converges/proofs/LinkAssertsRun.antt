-- The premises, computed.
use Rattle.std.{proofs.Common.{true, [], inr, refl, lit≤, lit<}}
use Rattle.pim_ip.{specs.Addr.addr}
use Rattle.pim_types.{specs.declared.fact.{AssertRole.AssertRole}}
use Rattle.pim_model.{specs.{Network.{Deliver, Network, Station, moved}, Sets.metric_of, State.opening}}
use Rattle.law_streams.{specs.{Joins.join_packet}, proofs.Computed.{stand, stands_there}}
use Rattle.pim_runs.{specs.{Base.{base, group}, Words.{address, frame}}, proofs.OnLiterals.machine_on_literals}
use Rattle.law_converges.{specs.{LinkAsserts.{CanGiveWay, IsSayable, LosesTo, said}, LinkAssertsRun.{FartherLoses, NearerAnswers, beside, better, claim, claims, farther_station, two_winners}}, proofs.LinkAsserts.one_winner_is_left}

abbrev nowhere : Station
nowhere = record { links = []; state = opening base }

abbrev told : Network
told = (moved two_winners claims).1

abbrev delivered : Network
delivered = (moved told (Deliver 1 0 1 7)).1

pub nearer_answers : NearerAnswers
unfolding machine_on_literals join_packet
nearer_answers = record {
  station = stand nowhere two_winners 0;
  there = stands_there nowhere two_winners 0 refl;
  event = frame 1 (claim (address 10 0 1 2) 21);
  is = refl;
  row = record { role = AssertRole.Winner; winner = better; end = 177000 };
  from = addr (address 10 0 1 2);
  message = said group 0 (metric_of true 110 21 (address 10 0 1 2));
  of_group = refl;
  of_source = refl;
  asserted = record { taken = refl; about = refl; key = refl; row = refl };
  wins = refl;
  no_better = refl;
  inferior = refl;
  sent = refl;
  own = refl;
  linked = refl;
}

pub sayable : IsSayable (address 10 0 1 1) group 0 better
unfolding machine_on_literals
sayable = record { from_host = refl; of_group = refl; goes_far = refl; of_source = lit< tt; preference_fits = lit< tt; metric_fits = lit< tt }

pub can_give_way : CanGiveWay group 0 better beside farther_station
unfolding machine_on_literals join_packet
can_give_way = record {
  hears = record { configured = lit≤ tt; up = refl; neighbour = refl; other = refl };
  linked = refl;
  room = refl;
  gives = refl;
}

loses_then : LosesTo group 0 better beside farther_station delivered
unfolding machine_on_literals join_packet
loses_then = record { state = (stand nowhere delivered 1).state; there = stands_there nowhere delivered 1 refl; lost = inr refl }

pub farther_loses : FartherLoses
unfolding machine_on_literals join_packet
farther_loses = (
  one_winner_is_left group 0 better beside two_winners claims sayable refl nearer_answers,
  refl,
  can_give_way,
  loses_then,
)
