-- The premises, computed.
use Rattle.std.proofs.{Common.{◌≡◌, suc, ◌+◌, ◌*◌, ◌<◌, ◌≤◌, inl, false, [], ◌∷◌, drop, length, Some, None, Ok, refl, lit≤, lit<}, lemmas.List.Elements.All-nil}
use Rattle.pim_types.specs.declared.fact.JoinTimerRow.{JoinTimerRow}
use Rattle.pim_model.specs.{declared.accepted.Accepted.Accepted, Full.is_full, Limits.config_test, Network.{At, Deliver, Move, Network, Station, moved, station_at}, State.opening}
use Rattle.law_events.{proofs.Rest.{opening_is_at_rest, run_is_at_rest}}
use Rattle.law_streams.{specs.{Joins.{Hears, IsWritable, join_packet, join_value}, InTimeJoins.{Always, AreThere, IsCovered, IsReady, Wants, entry_of, frame_of, prunes_of, time_at}, Shared.{ComesFrom, IsOnLink, frame_from}}, proofs.{Timed.run_is_timed, Computed.{at_another, no_others, none_new, none_pruned, one_other, stand, stands_there, timely, with_station, with_timer}, Pairs.joins_are_shared, Shared.{all_above, frames_come_to_both}}}
use Rattle.pim_runs.{specs.{Words.advance, ServedChain.{asked_group, first, second, station}, InTime.{joined, late, started}, OnLink.{JoinIsOverheardInTime, JoinIsSuppressed, SharedStaysHeld, first_asked, other_address, pair, second_joined, sent, shares, three}}, proofs.{InTime.its_group, OnLiterals.machine_on_literals}}

abbrev nowhere : Station
nowhere = record { links = []; state = opening first }

abbrev n0 : Network
n0 = three

abbrev m1 : Move
m1 = At 2 (advance 61000)

abbrev n1 : Network
n1 = (moved n0 m1).1

abbrev m2 : Move
m2 = Deliver 1 0 1 7

abbrev n2 : Network
n2 = (moved n1 m2).1

abbrev m3 : Move
m3 = Deliver 0 1 1 9

abbrev n3 : Network
n3 = (moved n2 m3).1

-- ---- ready

accepted_first : config_test first ≡ Ok tt
unfolding machine_on_literals
accepted_first = refl

accepted_second : config_test second ≡ Ok tt
unfolding machine_on_literals
accepted_second = refl

first_ready : IsReady 0 n0
unfolding station_at
first_ready = record {
  station = station (3 ∷ 1 ∷ []) first first_asked;
  there = refl;
  at_rest = run_is_at_rest (opening first) first_asked (opening_is_at_rest first accepted_first);
  timed = run_is_timed first first_asked;
}

second_ready : IsReady 1 n0
unfolding station_at
second_ready = record {
  station = station (1 ∷ 2 ∷ []) second second_joined;
  there = refl;
  at_rest = run_is_at_rest (opening second) second_joined (opening_is_at_rest second accepted_second);
  timed = run_is_timed second second_joined;
}

covered : IsCovered joined asked_group late started pair n0
unfolding machine_on_literals join_packet
covered = record {
  below = stand nowhere n0 0;
  below_is = stands_there nowhere n0 0 refl;
  above = stand nowhere n0 1;
  above_is = stands_there nowhere n0 1 refl;
  end = 212000;
  later = lit< tt;
  holds = record { row = record { expiry = Some 212000; pending = None }; found = refl; unpruned = refl; lasts = refl };
  lasts = λ row is. with_timer nowhere joined asked_group late started pair n0 (λ (r : JoinTimerRow). r.end + started 0 + 2 * late < 212000 + started 1) (lit< tt) row is;
}

-- ---- all the while

there_0 : AreThere joined asked_group pair n0
unfolding machine_on_literals join_packet
there_0 = record {
  below = stand nowhere n0 0;
  below_is = stands_there nowhere n0 0 refl;
  goes_up = record { rp_known = refl; next = refl; unlost = refl; own = refl; linked = refl };
  above = stand nowhere n0 1;
  above_is = stands_there nowhere n0 1 refl;
  listens = record { rp_known = refl; hears = record { configured = lit≤ tt; up = refl; neighbour = refl; other = refl }; own = refl; linked = refl };
}

there_1 : AreThere joined asked_group pair n1
unfolding machine_on_literals join_packet
there_1 = record {
  below = stand nowhere n1 0;
  below_is = stands_there nowhere n1 0 refl;
  goes_up = record { rp_known = refl; next = refl; unlost = refl; own = refl; linked = refl };
  above = stand nowhere n1 1;
  above_is = stands_there nowhere n1 1 refl;
  listens = record { rp_known = refl; hears = record { configured = lit≤ tt; up = refl; neighbour = refl; other = refl }; own = refl; linked = refl };
}

there_2 : AreThere joined asked_group pair n2
unfolding machine_on_literals join_packet
there_2 = record {
  below = stand nowhere n2 0;
  below_is = stands_there nowhere n2 0 refl;
  goes_up = record { rp_known = refl; next = refl; unlost = refl; own = refl; linked = refl };
  above = stand nowhere n2 1;
  above_is = stands_there nowhere n2 1 refl;
  listens = record { rp_known = refl; hears = record { configured = lit≤ tt; up = refl; neighbour = refl; other = refl }; own = refl; linked = refl };
}

there_3 : AreThere joined asked_group pair n3
unfolding machine_on_literals join_packet
there_3 = record {
  below = stand nowhere n3 0;
  below_is = stands_there nowhere n3 0 refl;
  goes_up = record { rp_known = refl; next = refl; unlost = refl; own = refl; linked = refl };
  above = stand nowhere n3 1;
  above_is = stands_there nowhere n3 1 refl;
  listens = record { rp_known = refl; hears = record { configured = lit≤ tt; up = refl; neighbour = refl; other = refl }; own = refl; linked = refl };
}

wants : Always (Wants joined asked_group 0) three shares
unfolding machine_on_literals join_packet
wants = (
  record { station = stand nowhere n0 0; there = stands_there nowhere n0 0 refl; wanted = refl },
  (
    record { station = stand nowhere n1 0; there = stands_there nowhere n1 0 refl; wanted = refl },
    (
      record { station = stand nowhere n2 0; there = stands_there nowhere n2 0 refl; wanted = refl },
      record { station = stand nowhere n3 0; there = stands_there nowhere n3 0 refl; wanted = refl },
    ),
  ),
)

-- ---- the Join of the other one

writable : IsWritable other_address (pair.hop).address.bits asked_group (entry_of joined) (prunes_of [])
unfolding machine_on_literals
writable = record {
  from_host = refl;
  to_fits = lit< tt;
  to_group = refl;
  of_host = refl;
  of_hosts = All-nil _;
  few = lit≤ tt;
}

one_told : drop (length n0.frames) n1.frames ≡ frame_from joined asked_group pair other_address [] ∷ []
unfolding machine_on_literals join_packet
one_told = refl

comes : ComesFrom joined asked_group late started pair other_address [] (suc (length n0.frames)) (sent (suc (length n0.frames))) n1 (m2 ∷ m3 ∷ [])
unfolding machine_on_literals join_packet
comes = inl (record {
  taken = record {
    draw = 7;
    is = refl;
    after = with_station nowhere n1 1 (λ st. 61000 ≤ time_at started 1 st) (lit≤ tt);
    room = with_station nowhere n1 1 (λ st. is_full st.state (Accepted.JoinPruneToMe (record { number = 0 })
        (join_value (pair.hop).address.bits asked_group (entry_of joined) (prunes_of []))) ≡ false) refl;
  };
  hears = with_station nowhere n1 1 (λ st. Hears st.state 0 other_address)
      (record { configured = lit≤ tt; up = refl; neighbour = refl; other = refl });
})

-- ---- each move

first_on_link : IsOnLink joined asked_group late started sent pair 0 n0 m1 (m2 ∷ m3 ∷ [])
unfolding machine_on_literals join_packet
first_on_link = record {
  timer = timely nowhere joined asked_group late started pair n0 n1 (lit≤ tt) (lit≤ tt);
  joins = λ e st number pruned ev at later got. absurd (at_another n0 m1 0 refl e ev);
  unpruned = λ e st ev at. absurd (at_another n0 m1 1 refl e ev);
  others = one_other nowhere joined asked_group late started pair sent n0 n1 (m2 ∷ m3 ∷ []) other_address one_told refl comes;
  shared = λ e st ev at is. absurd (at_another n0 m1 0 refl e ev);
}

second_on_link : IsOnLink joined asked_group late started sent pair 0 n1 m2 (m3 ∷ [])
unfolding machine_on_literals join_packet
second_on_link = record {
  timer = timely nowhere joined asked_group late started pair n1 n2 (lit≤ tt) (lit≤ tt);
  joins = λ e st number pruned ev at later got. absurd (at_another n1 m2 0 refl e ev);
  unpruned = none_pruned nowhere joined asked_group late started pair n1 m2 refl;
  others = no_others nowhere joined asked_group late started pair sent n1 n2 (m3 ∷ []) refl;
  shared = λ e st ev at is. absurd (at_another n1 m2 0 refl e ev);
}

third_on_link : IsOnLink joined asked_group late started sent pair 0 n2 m3 []
unfolding machine_on_literals join_packet
third_on_link = record {
  timer = timely nowhere joined asked_group late started pair n2 n3 (lit≤ tt) (lit≤ tt);
  joins = λ e st number pruned ev at later got.
      absurd (none_new n2 n3 (frame_of joined asked_group pair pruned) number refl later got);
  unpruned = λ e st ev at. absurd (at_another n2 m3 1 refl e ev);
  others = no_others nowhere joined asked_group late started pair sent n2 n3 [] refl;
  shared = λ e st ev at is. record {
    few = lit< tt;
    number = 1;
    later = lit< tt;
    draw = 9;
    is = refl;
    from = other_address;
    pruned = [];
    framed = refl;
    writable = writable;
    seen = with_station nowhere n2 0 (λ st. time_at started 0 st ≤ 61000 + late) (lit≤ tt);
    after = with_station nowhere n3 0 (λ st. 61000 ≤ time_at started 0 st) (lit≤ tt);
    by = with_station nowhere n3 1 (λ st. time_at started 1 st ≤ 61000 + late) (lit≤ tt);
  };
}

-- ---- all together

pub join_is_overheard_in_time : JoinIsOverheardInTime
join_is_overheard_in_time = (first_on_link, (second_on_link, (third_on_link, tt)))

pub join_is_suppressed : JoinIsSuppressed
unfolding machine_on_literals join_packet
join_is_suppressed = refl

there : Always (AreThere joined asked_group pair) three shares
there = (there_0, (there_1, (there_2, there_3)))

pub shared_stays_held : SharedStaysHeld
shared_stays_held =
    joins_are_shared joined asked_group late started pair three shares its_group (lit< tt)
    (record {
      apart = refl;
      lower_ready = first_ready;
      upper_ready = second_ready;
      covered = covered;
      there = there;
      in_time = frames_come_to_both joined asked_group late started sent pair three shares its_group (lit< tt) second_ready
          (all_above joined asked_group pair shares three there) join_is_overheard_in_time;
    })
    wants
