-- The premises, computed.
use Rattle.std.{proofs.{Common.{◌≡◌, suc, ◌+◌, ◌*◌, ◌<◌, ◌≤◌, inl, inr, false, [], ◌∷◌, drop, length, Some, None, Ok, refl, lit≤, lit<}, lemmas.List.Elements.All-nil}}
use Rattle.pim_types.{specs.declared.{event.Event.Event, fact.JoinTimerRow.JoinTimerRow}}
use Rattle.pim_model.{specs.{declared.accepted.Accepted.Accepted, Full.is_full, Limits.config_test, Network.{At, Deliver, Move, Network, Station, event_of, moved, station_at}, Sets.prunes, State.{opening}}}
use Rattle.law_events.{proofs.Rest.{opening_is_at_rest, run_is_at_rest}}
use Rattle.law_streams.{specs.{Joins.{IsWritable, join_packet, join_value}, Passing.{Passes, Receiver, Tree, has_moved, is_lost, takes_effect}, InTimeJoins.{Always, AreThere, ComesBy, IsCovered, IsInTime, IsJoin, IsReady, Wants, entry_of, frame_of, prunes_of, time_at}, InTimeStreams.{IsPassing, NoneEndsOtherwise, ends_otherwise}}, proofs.{Timed.run_is_timed, Computed.{at_another, event_in, joins_told, none_pruned, none_shared, stand, stands_there, timely, with_event, with_station, with_timer}, Pairs.joins_are_shared, InTimeStreams.joins_keep_stream}}
use Rattle.law_settled.{specs.Ready.IsSettled, proofs.Steps.run_is_settled}
use Rattle.pim_runs.{specs.{Words.advance, ServedChain.{asked_group, first, second, sender, station}, InTime.{JoinStaysHeld, JoinsAreInTime, StreamGoesOn, both, first_events, joined, late, pair, repeats, second_events, started}}, proofs.OnLiterals.machine_on_literals}

abbrev nowhere : Station
nowhere = record { links = []; state = opening first }

abbrev n0 : Network
n0 = both

abbrev m1 : Move
m1 = At 0 (advance 61000)

abbrev n1 : Network
n1 = (moved n0 m1).1

abbrev m2 : Move
m2 = At 1 (advance 61000)

abbrev n2 : Network
n2 = (moved n1 m2).1

abbrev m3 : Move
m3 = Deliver 1 0 1 7

abbrev n3 : Network
n3 = (moved n2 m3).1

-- ---- ready

accepted_first : config_test first ≡ Ok tt
unfolding machine_on_literals
accepted_first = refl

pub accepted_second : config_test second ≡ Ok tt
unfolding machine_on_literals
accepted_second = refl

abbrev first_now : Station
first_now = station (3 ∷ 1 ∷ []) first first_events

abbrev second_now : Station
second_now = station (1 ∷ 2 ∷ []) second second_events

first_ready : IsReady 0 n0
unfolding station_at
first_ready = record {
  station = first_now;
  there = refl;
  at_rest = run_is_at_rest (opening first) first_events (opening_is_at_rest first accepted_first);
  timed = run_is_timed first first_events;
}

second_ready : IsReady 1 n0
unfolding station_at
second_ready = record {
  station = second_now;
  there = refl;
  at_rest = run_is_at_rest (opening second) second_events (opening_is_at_rest second accepted_second);
  timed = run_is_timed second second_events;
}

-- ---- to begin with

covered : IsCovered joined asked_group late started pair n0
unfolding machine_on_literals join_packet
covered = record {
  below = stand nowhere n0 0;
  below_is = stands_there nowhere n0 0 refl;
  above = stand nowhere n0 1;
  above_is = stands_there nowhere n0 1 refl;
  end = 211000;
  later = lit< tt;
  holds = record { row = record { expiry = Some 211000; pending = None }; found = refl; unpruned = refl; lasts = refl };
  lasts = λ row is. with_timer nowhere joined asked_group late started pair n0 (λ (r : JoinTimerRow). r.end + started 0 + 2 * late < 211000 + started 1) (lit< tt) row is;
}

-- ---- all the while

there_0 : AreThere joined asked_group pair n0
unfolding machine_on_literals join_packet
there_0 = record {
  below = stand nowhere n0 0;
  below_is = stands_there nowhere n0 0 refl;
  goes_up = record { rp_known = refl; next = refl; unlost = refl; own = refl; linked = refl };
  above = stand nowhere n0 1;
  above_is = stands_there nowhere n0 1 refl;
  listens = record { rp_known = refl; hears = record { configured = lit≤ tt; up = refl; neighbour = refl; other = refl }; own = refl; linked = refl };
}

there_1 : AreThere joined asked_group pair n1
unfolding machine_on_literals join_packet
there_1 = record {
  below = stand nowhere n1 0;
  below_is = stands_there nowhere n1 0 refl;
  goes_up = record { rp_known = refl; next = refl; unlost = refl; own = refl; linked = refl };
  above = stand nowhere n1 1;
  above_is = stands_there nowhere n1 1 refl;
  listens = record { rp_known = refl; hears = record { configured = lit≤ tt; up = refl; neighbour = refl; other = refl }; own = refl; linked = refl };
}

there_2 : AreThere joined asked_group pair n2
unfolding machine_on_literals join_packet
there_2 = record {
  below = stand nowhere n2 0;
  below_is = stands_there nowhere n2 0 refl;
  goes_up = record { rp_known = refl; next = refl; unlost = refl; own = refl; linked = refl };
  above = stand nowhere n2 1;
  above_is = stands_there nowhere n2 1 refl;
  listens = record { rp_known = refl; hears = record { configured = lit≤ tt; up = refl; neighbour = refl; other = refl }; own = refl; linked = refl };
}

there_3 : AreThere joined asked_group pair n3
unfolding machine_on_literals join_packet
there_3 = record {
  below = stand nowhere n3 0;
  below_is = stands_there nowhere n3 0 refl;
  goes_up = record { rp_known = refl; next = refl; unlost = refl; own = refl; linked = refl };
  above = stand nowhere n3 1;
  above_is = stands_there nowhere n3 1 refl;
  listens = record { rp_known = refl; hears = record { configured = lit≤ tt; up = refl; neighbour = refl; other = refl }; own = refl; linked = refl };
}

-- ---- the Join that leaves

writable : IsWritable (pair.from) (pair.hop).address.bits asked_group (entry_of joined) (prunes_of [])
unfolding machine_on_literals
writable = record {
  from_host = refl;
  to_fits = lit< tt;
  to_group = refl;
  of_host = refl;
  of_hosts = All-nil _;
  few = lit≤ tt;
}

one_told : drop (length n0.frames) n1.frames ≡ frame_of joined asked_group pair [] ∷ []
unfolding machine_on_literals join_packet
one_told = refl

comes : ComesBy joined asked_group late started pair [] (suc (length n0.frames)) (time_at started 0 (stand nowhere n1 0)) n1 (m2 ∷ m3 ∷ [])
unfolding machine_on_literals join_packet
comes = inr (
  with_station nowhere n2 1 (λ st. time_at started 1 st ≤ time_at started 0 (stand nowhere n1 0) + late) (lit≤ tt),
  inl (record {
    draw = 7;
    is = refl;
    after = with_station nowhere n2 1 (λ st. time_at started 0 (stand nowhere n1 0) ≤ time_at started 1 st) (lit≤ tt);
    room = with_station nowhere n2 1 (λ st. is_full st.state (Accepted.JoinPruneToMe (record { number = 0 })
        (join_value (pair.hop).address.bits asked_group (entry_of joined) (prunes_of []))) ≡ false) refl;
  }),
)

-- ---- each move

first_in_time : IsInTime joined asked_group late started pair n0 m1 (m2 ∷ m3 ∷ [])
unfolding machine_on_literals join_packet
first_in_time = record {
  timer = timely nowhere joined asked_group late started pair n0 n1 (lit≤ tt) (lit≤ tt);
  joins = λ e st number pruned ev at later got.
      joins_told nowhere joined asked_group late started pair n0 n1 (m2 ∷ m3 ∷ []) one_told writable comes st number pruned at later got;
  unpruned = λ e st ev at. absurd (at_another n0 m1 1 refl e ev);
  shared = none_shared nowhere joined asked_group late started pair n0 m1 (m2 ∷ m3 ∷ []) refl;
}

second_in_time : IsInTime joined asked_group late started pair n1 m2 (m3 ∷ [])
unfolding machine_on_literals join_packet
second_in_time = record {
  timer = timely nowhere joined asked_group late started pair n1 n2 (lit≤ tt) (lit≤ tt);
  joins = λ e st number pruned ev at later got. absurd (at_another n1 m2 0 refl e ev);
  unpruned = none_pruned nowhere joined asked_group late started pair n1 m2 refl;
  shared = λ e st ev at is. absurd (at_another n1 m2 0 refl e ev);
}

third_in_time : IsInTime joined asked_group late started pair n2 m3 []
unfolding machine_on_literals join_packet
third_in_time = record {
  timer = timely nowhere joined asked_group late started pair n2 n3 (lit≤ tt) (lit≤ tt);
  joins = λ e st number pruned ev at later got. absurd (at_another n2 m3 0 refl e ev);
  unpruned = none_pruned nowhere joined asked_group late started pair n2 m3 refl;
  shared = λ e st ev at is. absurd (at_another n2 m3 0 refl e ev);
}

-- ---- all together

pub joins_are_in_time : JoinsAreInTime
joins_are_in_time = record {
  apart = refl;
  lower_ready = first_ready;
  upper_ready = second_ready;
  covered = covered;
  there = (there_0, (there_1, (there_2, there_3)));
  in_time = (first_in_time, (second_in_time, (third_in_time, tt)));
}

wants : Always (Wants joined asked_group 0) both repeats
unfolding machine_on_literals join_packet
wants = (
  record { station = stand nowhere n0 0; there = stands_there nowhere n0 0 refl; wanted = refl },
  (
    record { station = stand nowhere n1 0; there = stands_there nowhere n1 0 refl; wanted = refl },
    (
      record { station = stand nowhere n2 0; there = stands_there nowhere n2 0 refl; wanted = refl },
      record { station = stand nowhere n3 0; there = stands_there nowhere n3 0 refl; wanted = refl },
    ),
  ),
)

pub its_group : IsJoin joined asked_group
unfolding machine_on_literals
its_group = record { multicast = refl; goes_far = refl; rp_host = refl }

pub join_stays_held : JoinStaysHeld
join_stays_held =
    joins_are_shared joined asked_group late started pair both repeats its_group (lit< tt) joins_are_in_time wants

-- ---- the stream

second_settled : IsSettled second_now.state
second_settled = run_is_settled second second_events accepted_second

passes_now : Passes Tree.Shared Receiver.Router second_now.state asked_group sender 1 0
unfolding machine_on_literals join_packet
passes_now = record {
  settled = second_settled;
  matched = tt;
  comes_in = record { configured = lit≤ tt; is_up = refl; foreign = refl; on = record { on_tree = refl; source_too = refl } };
  goes_out = record {
    configured = lit≤ tt;
    group = refl;
    source = refl;
    wanted = record { row = record { expiry = Some 211000; pending = None }; found = refl; none_prunes = refl };
  };
  room = refl;
  on = refl;
}

passing : IsPassing joined Tree.Shared asked_group sender 1 pair n0
unfolding station_at
passing = record { station = second_now; there = refl; passes = passes_now }

none_by : (n : Network) (m : Move)
    → ends_otherwise joined Tree.Shared (stand nowhere n 1).state (event_in n m) asked_group sender 1 0 ≡ false
    → (e : Event) (st : Station) → event_of n m ≡ Some (1, e) → station_at n 1 ≡ Some st
    → ends_otherwise joined Tree.Shared st.state e asked_group sender 1 0 ≡ false
none_by n m f e st ev at =
    with_station nowhere n 1 (λ st. ends_otherwise joined Tree.Shared st.state e asked_group sender 1 0 ≡ false)
    (with_event n m 1 (λ e. ends_otherwise joined Tree.Shared (stand nowhere n 1).state e asked_group sender 1 0 ≡ false) f e ev) st at

none_ends : NoneEndsOtherwise joined Tree.Shared asked_group sender 1 pair both repeats
unfolding machine_on_literals join_packet ends_otherwise has_moved is_lost takes_effect prunes
none_ends = (
  λ e st ev at. absurd (at_another n0 m1 1 refl e ev),
  (none_by n1 m2 refl, (none_by n2 m3 refl, tt)),
)

pub stream_goes_on : StreamGoesOn
stream_goes_on =
    joins_keep_stream joined Tree.Shared asked_group late sender 1 started pair both repeats its_group tt (lit< tt) joins_are_in_time wants
    passing none_ends
