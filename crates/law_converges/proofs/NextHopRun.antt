-- The premises, computed.
use Rattle.std.{proofs.{Common.{[], Some, None, refl, lit≤, lit<}, lemmas.List.Elements.All-nil}}
use Rattle.pim_model.{specs.{declared.accepted.Accepted.Accepted, Network.{Deliver, Network, Station, moved}, State.opening}}
use Rattle.pim_runs.{specs.{InTime.joined, ServedChain.{asked_group, first}, Words.routes_to}, proofs.OnLiterals.machine_on_literals}
use Rattle.law_streams.{specs.{InTimeJoins.IsJoin, Joins.join_packet}, proofs.Computed.{stand, stands_there}}
use Rattle.law_converges.{specs.{NextHops.{CanTakeOver, HoldsNow}, NextHopRun.{OtherTakesOver, RouterTurns, other_station, over_other, pair, turn, two}}, proofs.TakesOver.new_next_hop_takes_over}

abbrev nowhere : Station
nowhere = record { links = []; state = opening first }

abbrev turned : Network
turned = (moved two turn).1

abbrev delivered : Network
delivered = (moved turned (Deliver 1 0 2 7)).1

pub router_turns : RouterTurns
unfolding machine_on_literals join_packet
router_turns = record {
  station = stand nowhere two 0;
  there = stands_there nowhere two 0 refl;
  event = routes_to over_other;
  is = refl;
  accepted = Accepted.Routes over_other;
  taken = refl;
  timeless = refl;
  turns = record { wanted_before = refl; wanted = refl; rp_known = refl; upstream = refl; another = refl; moved = refl };
  own = refl;
  linked = refl;
}

its_group : IsJoin joined asked_group
unfolding machine_on_literals
its_group = record { multicast = refl; goes_far = refl; rp_host = refl }

can_take : CanTakeOver joined asked_group pair [] other_station
unfolding machine_on_literals join_packet
can_take = record {
  listens = record { rp_known = refl; hears = record { configured = lit≤ tt; up = refl; neighbour = refl; other = refl }; own = refl; linked = refl };
  writable = record { from_host = refl; to_fits = lit< tt; to_group = refl; of_host = refl; of_hosts = All-nil _; few = lit≤ tt };
  room = refl;
}

holds_now : HoldsNow joined asked_group pair other_station delivered
unfolding machine_on_literals join_packet
holds_now = record {
  state = (stand nowhere delivered 1).state;
  there = stands_there nowhere delivered 1 refl;
  holds = record { row = record { expiry = Some 210000; pending = None }; found = refl; unpruned = refl; lasts = refl };
}

pub other_takes_over : OtherTakesOver
unfolding machine_on_literals join_packet
other_takes_over = (
  new_next_hop_takes_over joined asked_group pair two turn its_group router_turns,
  refl,
  refl,
  refl,
  can_take,
  holds_now,
)
