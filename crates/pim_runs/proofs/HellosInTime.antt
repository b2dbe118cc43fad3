-- The premises, computed.
use Rattle.std.{proofs.{Common.{◌≡◌, ◌∙◌, ℕ, ◌+◌, ◌<◌, ◌≤◌, nat_lt, max, false, [], ◌∷◌, inl, inr, drop, length, Option, Some, None, refl, sym, ap, subst, arith, lit≤, lit<}, lemmas.Bool.Decides.nat_tests}, specs.Prelude.unwrap_or}
use Rattle.pim_types.{specs.{Keys.{iface_key, neighbour_key}, declared.{event.Event.Event, fact.{InterfaceRow.InterfaceRow, NeighbourRow.NeighbourRow}}}}
use Rattle.law_streams.{specs.{Copies.happens, Adjacent.{HelloComesBy, HelloInTime, IsKnownFirst, Sends, begins_or_ends, shortens}, Hellos.hello_of, InTimeJoins.{IsBy, IsReady, time_at}, Neighbours.HoldsNeighbour, OneDr.{Among, KnowEachOther, KnowsOnly, Seat}}, proofs.{Timed.run_is_timed, Adjacent.neighbours_stay, OneDr.at_least_one_dr, Computed.{IsFirst, at_another, event_in, only_new, stand, stands_there, with_event, with_station}}}
use Rattle.pim_model.{specs.{Cause.done_as, Network.{At, Deliver, Move, Network, Station, event_of, frame_at, moved, station_at}, State.{State, opening}, Tables.{later_end, row_at}}}
use Rattle.law_events.{proofs.Rest.{opening_is_at_rest, run_is_at_rest}}
use Rattle.pim_runs.{specs.{Words.{address, advance}, InTime.{late, started}, HellosInTime.{HellosAreInTime, NeighbourStays, adjacent, OneIsDr, first_met, greets, met, seats, second_met}, ServedChain.{first, hello_from, second, station}}, proofs.{InTime.accepted_second, OnLiterals.machine_on_literals}}

abbrev nowhere : Station
nowhere = record { links = []; state = opening first }

abbrev n0 : Network
n0 = met

abbrev m1 : Move
m1 = At 0 (advance 100)

abbrev n1 : Network
n1 = (moved n0 m1).1

abbrev m2 : Move
m2 = At 1 (advance 100)

abbrev n2 : Network
n2 = (moved n1 m2).1

abbrev m3 : Move
m3 = Deliver 1 0 1 7

abbrev n3 : Network
n3 = (moved n2 m3).1

abbrev second_now : Station
second_now = station (1 ∷ 2 ∷ []) second second_met

second_ready : IsReady 1 n0
unfolding station_at
second_ready = record {
  station = second_now;
  there = refl;
  at_rest = run_is_at_rest (opening second) second_met (opening_is_at_rest second accepted_second);
  timed = run_is_timed second second_met;
}

abbrev its_neighbour : NeighbourRow
its_neighbour = unwrap_or (row_at second_now.state.neighbours (neighbour_key 0 (address 10 0 1 1)))
    (record { end = None; lan_delay = None; priority = None; generation = None })

-- ---- the sender

sends_0 : Sends adjacent n0
unfolding machine_on_literals
sends_0 = record {
  station = stand nowhere n0 0;
  there = stands_there nowhere n0 0 refl;
  up = refl;
  linked = refl;
  own = refl;
  readable = record { from_host = refl; delay_fits = lit< tt; interval_fits = lit< tt; priority_fits = lit< tt };
}

sends_1 : Sends adjacent n1
unfolding machine_on_literals
sends_1 = record {
  station = stand nowhere n1 0;
  there = stands_there nowhere n1 0 refl;
  up = refl;
  linked = refl;
  own = refl;
  readable = record { from_host = refl; delay_fits = lit< tt; interval_fits = lit< tt; priority_fits = lit< tt };
}

sends_2 : Sends adjacent n2
unfolding machine_on_literals
sends_2 = record {
  station = stand nowhere n2 0;
  there = stands_there nowhere n2 0 refl;
  up = refl;
  linked = refl;
  own = refl;
  readable = record { from_host = refl; delay_fits = lit< tt; interval_fits = lit< tt; priority_fits = lit< tt };
}

sends_3 : Sends adjacent n3
unfolding machine_on_literals
sends_3 = record {
  station = stand nowhere n3 0;
  there = stands_there nowhere n3 0 refl;
  up = refl;
  linked = refl;
  own = refl;
  readable = record { from_host = refl; delay_fits = lit< tt; interval_fits = lit< tt; priority_fits = lit< tt };
}

-- ---- to begin with

abbrev its_row : InterfaceRow
its_row = unwrap_or (row_at (stand nowhere n0 0).state.interfaces (iface_key 1)) (record { generation = 0; hello_end = 0; is_hello_owed = false })

known_first : IsKnownFirst late started adjacent n0
unfolding machine_on_literals
known_first = record {
  sender = stand nowhere n0 0;
  sender_is = stands_there nowhere n0 0 refl;
  row = its_row;
  row_is = refl;
  limit = 105000;
  knows = record {
    station = stand nowhere n0 1;
    there = stands_there nowhere n0 1 refl;
    end = 105000;
    later = lit< tt;
    holds = record { row = _; found = refl; lasts = refl };
    lasts = lit≤ tt;
  };
  lasts = lit< tt;
}

-- ---- what is asked of each move

-- the sender's Hello timer is at most as late as is said
timely : (n n' : Network) (x : ℕ)
    → (unwrap_or (row_at (stand nowhere n 0).state.interfaces (iface_key 1)) its_row).hello_end ≡ x
    → time_at started 0 (stand nowhere n' 0) ≤ x + 0 + late → time_at started 1 (stand nowhere n' 1) ≤ x + 0 + late
    → (st : Station) (row : InterfaceRow) → station_at n 0 ≡ Some st → row_at (st.state).interfaces (iface_key 1) ≡ Some row
    → IsBy started 0 (row.hello_end + 0 + late) n' × IsBy started 1 (row.hello_end + 0 + late) n'
timely n n' x is low up st row at found =
    let same : row.hello_end ≡ x =
    sym (ap (λ (o : Option InterfaceRow). (unwrap_or o its_row).hello_end)
    (ap (λ (z : Station). row_at (z.state).interfaces (iface_key 1)) (ap (λ (o : Option Station). unwrap_or o nowhere) at) ∙ found)) ∙ is in
    subst (λ (y : ℕ). IsBy started 0 (y + 0 + late) n' × IsBy started 1 (y + 0 + late) n') (sym same) (
      with_station nowhere n' 0 (λ st. time_at started 0 st ≤ x + 0 + late) low,
      with_station nowhere n' 1 (λ st. time_at started 1 st ≤ x + 0 + late) up,
    )

-- neither interface begins or ends
stays : (n : Network) (m : Move) (r i : ℕ)
    → begins_or_ends i (done_as (happens (stand nowhere n r).state (event_in n m))) ≡ false
    → (e : Event) (st : Station) → event_of n m ≡ Some (r, e) → station_at n r ≡ Some st
    → begins_or_ends i (done_as (happens st.state e)) ≡ false
stays n m r i f e st ev at =
    with_station nowhere n r (λ st. begins_or_ends i (done_as (happens st.state e)) ≡ false)
    (with_event n m r (λ e. begins_or_ends i (done_as (happens (stand nowhere n r).state e)) ≡ false) f e ev) st at

-- no Hello ends sooner than the one before
lengthens : (n : Network) (m : Move)
    → ((end : ℕ) → HoldsNeighbour (stand nowhere n 1).state 0 (address 10 0 1 1) end
    → shortens (stand nowhere n 1).state 0 (address 10 0 1 1) end (done_as (happens (stand nowhere n 1).state (event_in n m))) ≡ false)
    → (e : Event) (st : Station) (end : ℕ) → event_of n m ≡ Some (1, e) → station_at n 1 ≡ Some st
    → HoldsNeighbour st.state 0 (address 10 0 1 1) end → shortens st.state 0 (address 10 0 1 1) end (done_as (happens st.state e)) ≡ false
lengthens n m f e st end ev at holds =
    with_station nowhere n 1
    (λ st. HoldsNeighbour st.state 0 (address 10 0 1 1) end → shortens st.state 0 (address 10 0 1 1) end (done_as (happens st.state e)) ≡ false)
    (with_event n m 1
    (λ e. HoldsNeighbour (stand nowhere n 1).state 0 (address 10 0 1 1) end
    → shortens (stand nowhere n 1).state 0 (address 10 0 1 1) end (done_as (happens (stand nowhere n 1).state e)) ≡ false)
    (f end) e ev) st at holds

-- the row ends at a timestamp at the latest
ends_by : (s : State) (x end : ℕ) → unwrap_or (row_at s.neighbours (neighbour_key 0 (address 10 0 1 1))) its_neighbour ≡ record its_neighbour { end = Some x }
    → HoldsNeighbour s 0 (address 10 0 1 1) end → (y : ℕ) → x ≤ y → nat_lt y end ≡ false
ends_by s x end is f y le =
    let same : (f.row).end ≡ Some x = ap (λ (r : NeighbourRow). r.end) (sym (ap (λ (o : Option NeighbourRow). unwrap_or o its_neighbour) f.found) ∙ is) in
    let later : later_end (Some x) (Some end) ≡ Some x = subst (λ (o : Option ℕ). later_end o (Some end) ≡ o) same f.lasts in
    let most : max x end ≡ x = cc later in
    grind (arith, nat_tests, most, le)

-- ---- the Hello that leaves

one_told : drop (length n0.frames) n1.frames ≡ record { link = Some 1; bytes = hello_from (address 10 0 1 1) } ∷ []
unfolding machine_on_literals
one_told = refl

comes : HelloComesBy late started adjacent 1 (time_at started 0 (stand nowhere n1 0)) n1 (m2 ∷ m3 ∷ [])
unfolding machine_on_literals
comes = inr (
  with_station nowhere n2 1 (λ st. time_at started 1 st ≤ time_at started 0 (stand nowhere n1 0) + late) (lit≤ tt),
  inl (record {
    draw = 7;
    is = refl;
    station = stand nowhere n2 1;
    there = stands_there nowhere n2 1 refl;
    linked = refl;
    listens = record { configured = lit≤ tt; up = refl; other = refl };
    room = refl;
    after = lit≤ tt;
  }),
)

hello_comes : (e : Event) (st : Station) (number generation : ℕ) → station_at n1 0 ≡ Some st → length n0.frames < number
    → frame_at n1 number ≡ Some (record { link = Some 1; bytes = hello_of (st.state).configured 1 generation })
    → HelloComesBy late started adjacent number (time_at started 0 st) n1 (m2 ∷ m3 ∷ [])
hello_comes e st number generation at later got =
    let first : IsFirst number 1 _ _ = only_new n0 n1 _ _ number one_told later got in
    subst (λ (k : ℕ). HelloComesBy late started adjacent k (time_at started 0 st) n1 (m2 ∷ m3 ∷ [])) (sym first.number)
    (with_station nowhere n1 0 (λ st. HelloComesBy late started adjacent 1 (time_at started 0 st) n1 (m2 ∷ m3 ∷ [])) comes st at)

-- ---- each move

first_in_time : HelloInTime late started adjacent n0 m1 (m2 ∷ m3 ∷ [])
unfolding machine_on_literals
first_in_time = record {
  timer = timely n0 n1 1 refl (lit≤ tt) (lit≤ tt);
  hellos = λ e st number generation ev at later got. hello_comes e st number generation at later got;
  sender_stays = stays n0 m1 0 1 refl;
  receiver_stays = λ e st ev at. absurd (at_another n0 m1 1 refl e ev);
  lengthens = λ e st end ev at holds. absurd (at_another n0 m1 1 refl e ev);
}

second_in_time : HelloInTime late started adjacent n1 m2 (m3 ∷ [])
unfolding machine_on_literals
second_in_time = record {
  timer = timely n1 n2 30001 refl (lit≤ tt) (lit≤ tt);
  hellos = λ e st number generation ev at later got. absurd (at_another n1 m2 0 refl e ev);
  sender_stays = λ e st ev at. absurd (at_another n1 m2 0 refl e ev);
  receiver_stays = stays n1 m2 1 0 refl;
  lengthens = lengthens n1 m2 (λ end holds. refl);
}

third_in_time : HelloInTime late started adjacent n2 m3 []
unfolding machine_on_literals
third_in_time = record {
  timer = timely n2 n3 30001 refl (lit≤ tt) (lit≤ tt);
  hellos = λ e st number generation ev at later got. absurd (at_another n2 m3 0 refl e ev);
  sender_stays = λ e st ev at. absurd (at_another n2 m3 0 refl e ev);
  receiver_stays = stays n2 m3 1 0 refl;
  lengthens = lengthens n2 m3 (λ end holds. ends_by (stand nowhere n2 1).state 105000 end refl holds 105100 (lit≤ tt));
}

-- ---- all together

pub hellos_are_in_time : HellosAreInTime
hellos_are_in_time = (first_in_time, (second_in_time, (third_in_time, tt)))

pub neighbour_stays : NeighbourStays
neighbour_stays =
    neighbours_stay late started adjacent met greets (lit< tt) second_ready (sends_0, (sends_1, (sends_2, sends_3))) known_first hellos_are_in_time

-- ---- the DR

abbrev first_seat : Seat
first_seat = record { state = (station (3 ∷ 1 ∷ []) first first_met).state; iface = 1 }

abbrev second_seat : Seat
second_seat = record { state = (station (1 ∷ 2 ∷ []) second second_met).state; iface = 0 }

know_each_other : KnowEachOther (first_seat).state 1 (second_seat).state 0
unfolding machine_on_literals
know_each_other = record {
  apart = refl;
  there = record { row = its_neighbour; found = refl; announced = refl };
  here = record { row = its_neighbour; found = refl; announced = refl };
  alike = refl;
}

first_knows : KnowsOnly seats first_seat
unfolding machine_on_literals
first_knows = record {
  only = (record { seat = second_seat; among = inr (inl refl); address = refl; priority = refl }, tt);
  priorities = refl;
}

second_knows : KnowsOnly seats second_seat
unfolding machine_on_literals
second_knows = record {
  only = (record { seat = first_seat; among = inl refl; address = refl; priority = refl }, tt);
  priorities = refl;
}

each_knows : (x : Seat) → Among seats x → KnowsOnly seats x
each_knows x (inl e) = subst (KnowsOnly seats) e first_knows
each_knows x (inr (inl e)) = subst (KnowsOnly seats) e second_knows
each_knows x (inr (inr none)) = absurd none

pub one_is_dr : OneIsDr
one_is_dr = (know_each_other, at_least_one_dr first_seat (second_seat ∷ []) each_knows)
