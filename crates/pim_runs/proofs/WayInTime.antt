-- The premises, computed.
use Rattle.std.proofs.{Common.{◌≡◌, suc, ◌+◌, ◌*◌, ◌<◌, ◌≤◌, inl, inr, false, [], ◌∷◌, drop, length, Some, None, Ok, refl, lit≤, lit<}, lemmas.List.Elements.All-nil}
use Rattle.pim_types.{specs.declared.fact.JoinTimerRow.JoinTimerRow}
use Rattle.pim_model.{specs.{declared.accepted.Accepted.Accepted, Full.is_full, Limits.config_test, Network.{At, Deliver, Move, Network, Station, moved, station_at}, State.opening}}
use Rattle.law_events.{proofs.Rest.{opening_is_at_rest, run_is_at_rest}}
use Rattle.law_streams.{specs.{Joins.{IsWritable, join_packet, join_value}, InTimeJoins.{Always, AreThere, ComeInTime, ComesBy, IsCovered, IsInTime, IsJoin, IsReady, IsUnlost, Wants, entry_of, frame_of, prunes_of, time_at}}, proofs.{Timed.run_is_timed, Computed.{at_another, joins_told, none_new, none_pruned, none_shared, stand, stands_there, timely, with_station, with_timer}, Pairs.way_stays_joined}}
use Rattle.pim_runs.{specs.{InTime.{first_events, joined, late, pair, second_events, started}, ServedChain.{asked_group, first, second, station, third}, WayInTime.{ChainJoinsInTime, WayStaysHeld, repeats_twice, third_events, three, upper_pair}, Words.advance}, proofs.OnLiterals.machine_on_literals}

abbrev nowhere : Station
nowhere = record { links = []; state = opening first }

abbrev n0 : Network
n0 = three

abbrev m1 : Move
m1 = At 0 (advance 61000)

abbrev n1 : Network
n1 = (moved n0 m1).1

abbrev m2 : Move
m2 = At 1 (advance 61000)

abbrev n2 : Network
n2 = (moved n1 m2).1

abbrev m3 : Move
m3 = Deliver 1 0 1 7

abbrev n3 : Network
n3 = (moved n2 m3).1

abbrev m4 : Move
m4 = At 2 (advance 61000)

abbrev n4 : Network
n4 = (moved n3 m4).1

abbrev m5 : Move
m5 = Deliver 2 0 2 7

abbrev n5 : Network
n5 = (moved n4 m5).1

-- ---- ready

accepted_first : config_test first ≡ Ok tt
unfolding machine_on_literals
accepted_first = refl

accepted_second : config_test second ≡ Ok tt
unfolding machine_on_literals
accepted_second = refl

accepted_third : config_test third ≡ Ok tt
unfolding machine_on_literals
accepted_third = refl

first_ready : IsReady 0 n0
unfolding station_at
first_ready = record {
  station = station (3 ∷ 1 ∷ []) first first_events;
  there = refl;
  at_rest = run_is_at_rest (opening first) first_events (opening_is_at_rest first accepted_first);
  timed = run_is_timed first first_events;
}

second_ready : IsReady 1 n0
unfolding station_at
second_ready = record {
  station = station (1 ∷ 2 ∷ []) second second_events;
  there = refl;
  at_rest = run_is_at_rest (opening second) second_events (opening_is_at_rest second accepted_second);
  timed = run_is_timed second second_events;
}

third_ready : IsReady 2 n0
unfolding station_at
third_ready = record {
  station = station (2 ∷ []) third third_events;
  there = refl;
  at_rest = run_is_at_rest (opening third) third_events (opening_is_at_rest third accepted_third);
  timed = run_is_timed third third_events;
}

-- ---- to begin with

lower_covered : IsCovered joined asked_group late started pair n0
unfolding machine_on_literals join_packet
lower_covered = record {
  below = stand nowhere n0 0;
  below_is = stands_there nowhere n0 0 refl;
  above = stand nowhere n0 1;
  above_is = stands_there nowhere n0 1 refl;
  end = 211000;
  later = lit< tt;
  holds = record { row = record { expiry = Some 211000; pending = None }; found = refl; unpruned = refl; lasts = refl };
  lasts = λ row is. with_timer nowhere joined asked_group late started pair n0
      (λ (r : JoinTimerRow). r.end + started 0 + 2 * late < 211000 + started 1) (lit< tt) row is;
}

upper_covered : IsCovered joined asked_group late started upper_pair n0
unfolding machine_on_literals join_packet
upper_covered = record {
  below = stand nowhere n0 1;
  below_is = stands_there nowhere n0 1 refl;
  above = stand nowhere n0 2;
  above_is = stands_there nowhere n0 2 refl;
  end = 211000;
  later = lit< tt;
  holds = record { row = record { expiry = Some 211000; pending = None }; found = refl; unpruned = refl; lasts = refl };
  lasts = λ row is. with_timer nowhere joined asked_group late started upper_pair n0
      (λ (r : JoinTimerRow). r.end + started 1 + 2 * late < 211000 + started 2) (lit< tt) row is;
}

-- ---- all the while

lower_there_0 : AreThere joined asked_group pair n0
unfolding machine_on_literals join_packet
lower_there_0 = record {
  below = stand nowhere n0 0;
  below_is = stands_there nowhere n0 0 refl;
  goes_up = record { rp_known = refl; next = refl; unlost = refl; own = refl; linked = refl };
  above = stand nowhere n0 1;
  above_is = stands_there nowhere n0 1 refl;
  listens = record { rp_known = refl; hears = record { configured = lit≤ tt; up = refl; neighbour = refl; other = refl }; own = refl; linked = refl };
}

lower_there_1 : AreThere joined asked_group pair n1
unfolding machine_on_literals join_packet
lower_there_1 = record {
  below = stand nowhere n1 0;
  below_is = stands_there nowhere n1 0 refl;
  goes_up = record { rp_known = refl; next = refl; unlost = refl; own = refl; linked = refl };
  above = stand nowhere n1 1;
  above_is = stands_there nowhere n1 1 refl;
  listens = record { rp_known = refl; hears = record { configured = lit≤ tt; up = refl; neighbour = refl; other = refl }; own = refl; linked = refl };
}

lower_there_2 : AreThere joined asked_group pair n2
unfolding machine_on_literals join_packet
lower_there_2 = record {
  below = stand nowhere n2 0;
  below_is = stands_there nowhere n2 0 refl;
  goes_up = record { rp_known = refl; next = refl; unlost = refl; own = refl; linked = refl };
  above = stand nowhere n2 1;
  above_is = stands_there nowhere n2 1 refl;
  listens = record { rp_known = refl; hears = record { configured = lit≤ tt; up = refl; neighbour = refl; other = refl }; own = refl; linked = refl };
}

lower_there_3 : AreThere joined asked_group pair n3
unfolding machine_on_literals join_packet
lower_there_3 = record {
  below = stand nowhere n3 0;
  below_is = stands_there nowhere n3 0 refl;
  goes_up = record { rp_known = refl; next = refl; unlost = refl; own = refl; linked = refl };
  above = stand nowhere n3 1;
  above_is = stands_there nowhere n3 1 refl;
  listens = record { rp_known = refl; hears = record { configured = lit≤ tt; up = refl; neighbour = refl; other = refl }; own = refl; linked = refl };
}

lower_there_4 : AreThere joined asked_group pair n4
unfolding machine_on_literals join_packet
lower_there_4 = record {
  below = stand nowhere n4 0;
  below_is = stands_there nowhere n4 0 refl;
  goes_up = record { rp_known = refl; next = refl; unlost = refl; own = refl; linked = refl };
  above = stand nowhere n4 1;
  above_is = stands_there nowhere n4 1 refl;
  listens = record { rp_known = refl; hears = record { configured = lit≤ tt; up = refl; neighbour = refl; other = refl }; own = refl; linked = refl };
}

lower_there_5 : AreThere joined asked_group pair n5
unfolding machine_on_literals join_packet
lower_there_5 = record {
  below = stand nowhere n5 0;
  below_is = stands_there nowhere n5 0 refl;
  goes_up = record { rp_known = refl; next = refl; unlost = refl; own = refl; linked = refl };
  above = stand nowhere n5 1;
  above_is = stands_there nowhere n5 1 refl;
  listens = record { rp_known = refl; hears = record { configured = lit≤ tt; up = refl; neighbour = refl; other = refl }; own = refl; linked = refl };
}

lower_unlost : Always (IsUnlost joined asked_group pair) three repeats_twice
unfolding machine_on_literals join_packet
lower_unlost = (
  record { station = stand nowhere n0 1; there = stands_there nowhere n0 1 refl; unlost = refl },
  (
    record { station = stand nowhere n1 1; there = stands_there nowhere n1 1 refl; unlost = refl },
    (
      record { station = stand nowhere n2 1; there = stands_there nowhere n2 1 refl; unlost = refl },
      (
        record { station = stand nowhere n3 1; there = stands_there nowhere n3 1 refl; unlost = refl },
        (
          record { station = stand nowhere n4 1; there = stands_there nowhere n4 1 refl; unlost = refl },
          record { station = stand nowhere n5 1; there = stands_there nowhere n5 1 refl; unlost = refl },
        ),
      ),
    ),
  ),
)

upper_there_0 : AreThere joined asked_group upper_pair n0
unfolding machine_on_literals join_packet
upper_there_0 = record {
  below = stand nowhere n0 1;
  below_is = stands_there nowhere n0 1 refl;
  goes_up = record { rp_known = refl; next = refl; unlost = refl; own = refl; linked = refl };
  above = stand nowhere n0 2;
  above_is = stands_there nowhere n0 2 refl;
  listens = record { rp_known = refl; hears = record { configured = lit≤ tt; up = refl; neighbour = refl; other = refl }; own = refl; linked = refl };
}

upper_there_1 : AreThere joined asked_group upper_pair n1
unfolding machine_on_literals join_packet
upper_there_1 = record {
  below = stand nowhere n1 1;
  below_is = stands_there nowhere n1 1 refl;
  goes_up = record { rp_known = refl; next = refl; unlost = refl; own = refl; linked = refl };
  above = stand nowhere n1 2;
  above_is = stands_there nowhere n1 2 refl;
  listens = record { rp_known = refl; hears = record { configured = lit≤ tt; up = refl; neighbour = refl; other = refl }; own = refl; linked = refl };
}

upper_there_2 : AreThere joined asked_group upper_pair n2
unfolding machine_on_literals join_packet
upper_there_2 = record {
  below = stand nowhere n2 1;
  below_is = stands_there nowhere n2 1 refl;
  goes_up = record { rp_known = refl; next = refl; unlost = refl; own = refl; linked = refl };
  above = stand nowhere n2 2;
  above_is = stands_there nowhere n2 2 refl;
  listens = record { rp_known = refl; hears = record { configured = lit≤ tt; up = refl; neighbour = refl; other = refl }; own = refl; linked = refl };
}

upper_there_3 : AreThere joined asked_group upper_pair n3
unfolding machine_on_literals join_packet
upper_there_3 = record {
  below = stand nowhere n3 1;
  below_is = stands_there nowhere n3 1 refl;
  goes_up = record { rp_known = refl; next = refl; unlost = refl; own = refl; linked = refl };
  above = stand nowhere n3 2;
  above_is = stands_there nowhere n3 2 refl;
  listens = record { rp_known = refl; hears = record { configured = lit≤ tt; up = refl; neighbour = refl; other = refl }; own = refl; linked = refl };
}

upper_there_4 : AreThere joined asked_group upper_pair n4
unfolding machine_on_literals join_packet
upper_there_4 = record {
  below = stand nowhere n4 1;
  below_is = stands_there nowhere n4 1 refl;
  goes_up = record { rp_known = refl; next = refl; unlost = refl; own = refl; linked = refl };
  above = stand nowhere n4 2;
  above_is = stands_there nowhere n4 2 refl;
  listens = record { rp_known = refl; hears = record { configured = lit≤ tt; up = refl; neighbour = refl; other = refl }; own = refl; linked = refl };
}

upper_there_5 : AreThere joined asked_group upper_pair n5
unfolding machine_on_literals join_packet
upper_there_5 = record {
  below = stand nowhere n5 1;
  below_is = stands_there nowhere n5 1 refl;
  goes_up = record { rp_known = refl; next = refl; unlost = refl; own = refl; linked = refl };
  above = stand nowhere n5 2;
  above_is = stands_there nowhere n5 2 refl;
  listens = record { rp_known = refl; hears = record { configured = lit≤ tt; up = refl; neighbour = refl; other = refl }; own = refl; linked = refl };
}

upper_unlost : Always (IsUnlost joined asked_group upper_pair) three repeats_twice
unfolding machine_on_literals join_packet
upper_unlost = (
  record { station = stand nowhere n0 2; there = stands_there nowhere n0 2 refl; unlost = refl },
  (
    record { station = stand nowhere n1 2; there = stands_there nowhere n1 2 refl; unlost = refl },
    (
      record { station = stand nowhere n2 2; there = stands_there nowhere n2 2 refl; unlost = refl },
      (
        record { station = stand nowhere n3 2; there = stands_there nowhere n3 2 refl; unlost = refl },
        (
          record { station = stand nowhere n4 2; there = stands_there nowhere n4 2 refl; unlost = refl },
          record { station = stand nowhere n5 2; there = stands_there nowhere n5 2 refl; unlost = refl },
        ),
      ),
    ),
  ),
)

wants : Always (Wants joined asked_group 0) three repeats_twice
unfolding machine_on_literals join_packet
wants = (
  record { station = stand nowhere n0 0; there = stands_there nowhere n0 0 refl; wanted = refl },
  (
    record { station = stand nowhere n1 0; there = stands_there nowhere n1 0 refl; wanted = refl },
    (
      record { station = stand nowhere n2 0; there = stands_there nowhere n2 0 refl; wanted = refl },
      (
        record { station = stand nowhere n3 0; there = stands_there nowhere n3 0 refl; wanted = refl },
        (
          record { station = stand nowhere n4 0; there = stands_there nowhere n4 0 refl; wanted = refl },
          record { station = stand nowhere n5 0; there = stands_there nowhere n5 0 refl; wanted = refl },
        ),
      ),
    ),
  ),
)

-- ---- the Joins that leave

lower_told : drop (length n0.frames) n1.frames ≡ frame_of joined asked_group pair [] ∷ []
unfolding machine_on_literals join_packet
lower_told = refl

lower_writable : IsWritable (pair.from) (pair.hop).address.bits asked_group (entry_of joined) (prunes_of [])
unfolding machine_on_literals
lower_writable = record {
  from_host = refl;
  to_fits = lit< tt;
  to_group = refl;
  of_host = refl;
  of_hosts = All-nil _;
  few = lit≤ tt;
}

lower_comes : ComesBy joined asked_group late started pair [] (suc (length n0.frames)) (time_at started 0 (stand nowhere n1 0)) n1 (m2 ∷ m3 ∷ m4 ∷ m5 ∷ [])
unfolding machine_on_literals join_packet
lower_comes = inr (
  with_station nowhere n2 1 (λ st. time_at started 1 st ≤ time_at started 0 (stand nowhere n1 0) + late) (lit≤ tt),
  inl (record {
    draw = 7;
    is = refl;
    after = with_station nowhere n2 1 (λ st. time_at started 0 (stand nowhere n1 0) ≤ time_at started 1 st) (lit≤ tt);
    room = with_station nowhere n2 1 (λ st. is_full st.state (Accepted.JoinPruneToMe (record { number = 0 })
        (join_value (pair.hop).address.bits asked_group (entry_of joined) (prunes_of []))) ≡ false) refl;
  }),
)

upper_told : drop (length n1.frames) n2.frames ≡ frame_of joined asked_group upper_pair [] ∷ []
unfolding machine_on_literals join_packet
upper_told = refl

upper_writable : IsWritable (upper_pair.from) (upper_pair.hop).address.bits asked_group (entry_of joined) (prunes_of [])
unfolding machine_on_literals
upper_writable = record {
  from_host = refl;
  to_fits = lit< tt;
  to_group = refl;
  of_host = refl;
  of_hosts = All-nil _;
  few = lit≤ tt;
}

upper_comes : ComesBy joined asked_group late started upper_pair [] (suc (length n1.frames)) (time_at started 1 (stand nowhere n2 1)) n2 (m3 ∷ m4 ∷ m5 ∷ [])
unfolding machine_on_literals join_packet
upper_comes = inr (
  with_station nowhere n3 2 (λ st. time_at started 2 st ≤ time_at started 1 (stand nowhere n2 1) + late) (lit≤ tt),
  inr (
    with_station nowhere n4 2 (λ st. time_at started 2 st ≤ time_at started 1 (stand nowhere n2 1) + late) (lit≤ tt),
    inl (record {
      draw = 7;
      is = refl;
      after = with_station nowhere n4 2 (λ st. time_at started 1 (stand nowhere n2 1) ≤ time_at started 2 st) (lit≤ tt);
      room = with_station nowhere n4 2 (λ st. is_full st.state (Accepted.JoinPruneToMe (record { number = 0 })
          (join_value (upper_pair.hop).address.bits asked_group (entry_of joined) (prunes_of []))) ≡ false) refl;
    }),
  ),
)

-- ---- each move

lower_in_time_1 : IsInTime joined asked_group late started pair n0 m1 (m2 ∷ m3 ∷ m4 ∷ m5 ∷ [])
unfolding machine_on_literals join_packet
lower_in_time_1 = record {
  timer = timely nowhere joined asked_group late started pair n0 n1 (lit≤ tt) (lit≤ tt);
  joins = λ e st number pruned ev at later got.
      joins_told nowhere joined asked_group late started pair n0 n1 (m2 ∷ m3 ∷ m4 ∷ m5 ∷ []) lower_told lower_writable lower_comes st number pruned at later got;
  unpruned = λ e st ev at. absurd (at_another n0 m1 1 refl e ev);
  shared = none_shared nowhere joined asked_group late started pair n0 m1 (m2 ∷ m3 ∷ m4 ∷ m5 ∷ []) refl;
}

lower_in_time_2 : IsInTime joined asked_group late started pair n1 m2 (m3 ∷ m4 ∷ m5 ∷ [])
unfolding machine_on_literals join_packet
lower_in_time_2 = record {
  timer = timely nowhere joined asked_group late started pair n1 n2 (lit≤ tt) (lit≤ tt);
  joins = λ e st number pruned ev at later got. absurd (at_another n1 m2 0 refl e ev);
  unpruned = none_pruned nowhere joined asked_group late started pair n1 m2 refl;
  shared = λ e st ev at is. absurd (at_another n1 m2 0 refl e ev);
}

lower_in_time_3 : IsInTime joined asked_group late started pair n2 m3 (m4 ∷ m5 ∷ [])
unfolding machine_on_literals join_packet
lower_in_time_3 = record {
  timer = timely nowhere joined asked_group late started pair n2 n3 (lit≤ tt) (lit≤ tt);
  joins = λ e st number pruned ev at later got. absurd (at_another n2 m3 0 refl e ev);
  unpruned = none_pruned nowhere joined asked_group late started pair n2 m3 refl;
  shared = λ e st ev at is. absurd (at_another n2 m3 0 refl e ev);
}

lower_in_time_4 : IsInTime joined asked_group late started pair n3 m4 (m5 ∷ [])
unfolding machine_on_literals join_packet
lower_in_time_4 = record {
  timer = timely nowhere joined asked_group late started pair n3 n4 (lit≤ tt) (lit≤ tt);
  joins = λ e st number pruned ev at later got. absurd (at_another n3 m4 0 refl e ev);
  unpruned = λ e st ev at. absurd (at_another n3 m4 1 refl e ev);
  shared = λ e st ev at is. absurd (at_another n3 m4 0 refl e ev);
}

lower_in_time_5 : IsInTime joined asked_group late started pair n4 m5 ([])
unfolding machine_on_literals join_packet
lower_in_time_5 = record {
  timer = timely nowhere joined asked_group late started pair n4 n5 (lit≤ tt) (lit≤ tt);
  joins = λ e st number pruned ev at later got. absurd (at_another n4 m5 0 refl e ev);
  unpruned = λ e st ev at. absurd (at_another n4 m5 1 refl e ev);
  shared = λ e st ev at is. absurd (at_another n4 m5 0 refl e ev);
}

upper_in_time_1 : IsInTime joined asked_group late started upper_pair n0 m1 (m2 ∷ m3 ∷ m4 ∷ m5 ∷ [])
unfolding machine_on_literals join_packet
upper_in_time_1 = record {
  timer = timely nowhere joined asked_group late started upper_pair n0 n1 (lit≤ tt) (lit≤ tt);
  joins = λ e st number pruned ev at later got. absurd (at_another n0 m1 1 refl e ev);
  unpruned = λ e st ev at. absurd (at_another n0 m1 2 refl e ev);
  shared = λ e st ev at is. absurd (at_another n0 m1 1 refl e ev);
}

upper_in_time_2 : IsInTime joined asked_group late started upper_pair n1 m2 (m3 ∷ m4 ∷ m5 ∷ [])
unfolding machine_on_literals join_packet
upper_in_time_2 = record {
  timer = timely nowhere joined asked_group late started upper_pair n1 n2 (lit≤ tt) (lit≤ tt);
  joins = λ e st number pruned ev at later got.
      joins_told nowhere joined asked_group late started upper_pair n1 n2 (m3 ∷ m4 ∷ m5 ∷ []) upper_told upper_writable upper_comes st number pruned at later got;
  unpruned = λ e st ev at. absurd (at_another n1 m2 2 refl e ev);
  shared = none_shared nowhere joined asked_group late started upper_pair n1 m2 (m3 ∷ m4 ∷ m5 ∷ []) refl;
}

upper_in_time_3 : IsInTime joined asked_group late started upper_pair n2 m3 (m4 ∷ m5 ∷ [])
unfolding machine_on_literals join_packet
upper_in_time_3 = record {
  timer = timely nowhere joined asked_group late started upper_pair n2 n3 (lit≤ tt) (lit≤ tt);
  joins = λ e st number pruned ev at later got.
      absurd (none_new n2 n3 (frame_of joined asked_group upper_pair pruned) number refl later got);
  unpruned = λ e st ev at. absurd (at_another n2 m3 2 refl e ev);
  shared = none_shared nowhere joined asked_group late started upper_pair n2 m3 (m4 ∷ m5 ∷ []) refl;
}

upper_in_time_4 : IsInTime joined asked_group late started upper_pair n3 m4 (m5 ∷ [])
unfolding machine_on_literals join_packet
upper_in_time_4 = record {
  timer = timely nowhere joined asked_group late started upper_pair n3 n4 (lit≤ tt) (lit≤ tt);
  joins = λ e st number pruned ev at later got. absurd (at_another n3 m4 1 refl e ev);
  unpruned = none_pruned nowhere joined asked_group late started upper_pair n3 m4 refl;
  shared = λ e st ev at is. absurd (at_another n3 m4 1 refl e ev);
}

upper_in_time_5 : IsInTime joined asked_group late started upper_pair n4 m5 ([])
unfolding machine_on_literals join_packet
upper_in_time_5 = record {
  timer = timely nowhere joined asked_group late started upper_pair n4 n5 (lit≤ tt) (lit≤ tt);
  joins = λ e st number pruned ev at later got. absurd (at_another n4 m5 1 refl e ev);
  unpruned = none_pruned nowhere joined asked_group late started upper_pair n4 m5 refl;
  shared = λ e st ev at is. absurd (at_another n4 m5 1 refl e ev);
}

-- ---- all together

lower_comes_in_time : ComeInTime joined asked_group late started pair three repeats_twice
lower_comes_in_time = record {
  apart = refl;
  lower_ready = first_ready;
  upper_ready = second_ready;
  covered = lower_covered;
  there = (lower_there_0, (lower_there_1, (lower_there_2, (lower_there_3, (lower_there_4, lower_there_5)))));
  in_time = (lower_in_time_1, (lower_in_time_2, (lower_in_time_3, (lower_in_time_4, (lower_in_time_5, tt)))));
}

upper_comes_in_time : ComeInTime joined asked_group late started upper_pair three repeats_twice
upper_comes_in_time = record {
  apart = refl;
  lower_ready = second_ready;
  upper_ready = third_ready;
  covered = upper_covered;
  there = (upper_there_0, (upper_there_1, (upper_there_2, (upper_there_3, (upper_there_4, upper_there_5)))));
  in_time = (upper_in_time_1, (upper_in_time_2, (upper_in_time_3, (upper_in_time_4, (upper_in_time_5, tt)))));
}

pub chain_joins_in_time : ChainJoinsInTime
chain_joins_in_time =
    (refl, lower_comes_in_time, lower_unlost, (refl, upper_comes_in_time, upper_unlost, tt))

its_group : IsJoin joined asked_group
unfolding machine_on_literals
its_group = record { multicast = refl; goes_far = refl; rp_host = refl }

pub way_stays_held : WayStaysHeld
way_stays_held =
    way_stays_joined joined asked_group late started three repeats_twice 0 (pair ∷ upper_pair ∷ []) its_group (lit< tt) chain_joins_in_time
    wants
