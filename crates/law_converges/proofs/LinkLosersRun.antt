-- The premises, computed.
use Rattle.std.{proofs.{Common.{◌≡◌, ◌∙◌, ℕ, ◌+◌, ◌<◌, ◌≤◌, true, [], ◌∷◌, inl, drop, length, Some, Ok, refl, sym, ap, subst, arith, lit≤, lit<}, lemmas.Bool.both_ways}, specs.Prelude.slice_get}
use Rattle.pim_ip.{specs.Addr.addr}
use Rattle.pim_types.{specs.declared.{event.{Event.Event, EventKind.EventKind}, fact.{AssertRole.AssertRole, AssertRow.AssertRow, Key.Key}}}
use Rattle.pim_model.{specs.{declared.accepted.Accepted.Accepted, Cause.done_as, Limits.config_test, Network.{Network, Sent, Station, event_of, frame_at, moved, station_at}, Sets.is_winner, State.{opening}, Step.step, Tables.row_at}}
use Rattle.law_events.{proofs.Rest.{opening_is_at_rest, run_is_at_rest}}
use Rattle.law_streams.{specs.{Copies.happens, InTimeJoins.{IsBy, IsReady, time_at}, Joins.join_packet}, proofs.{Computed.{IsFirst, only_new}, Deliveries.{IsStepped, is_delivered, is_moved}, Pairs.{ready_then, same_station}, Timed.run_is_timed}}
use Rattle.pim_runs.{specs.{Base.group, Words.advance}, proofs.OnLiterals.machine_on_literals}
use Rattle.law_converges.{specs.{LinkAsserts.{assert_packet, lost_to, said}, LinkAssertsRun.{beside, better, farther, farther_events, farther_station}, LinkLosers.{AssertComesBy, AssertInTime, AssertsBy, AssertsComeInTime, KeepsLoss, LosesBeyond, LosesUntil, Wins, ends_loss, loser_key, needs_no_clearing, passes_throughout, survives, survives_instant, survives_timer, winner_key, winner_of}, LinkLosersRun.{FartherComesToLose, FartherStaysLoser, NearerAssertsInTime, asserting, goes_on, hears_it, late_assert, later_bound, nearer_station, next_assert_bound, says_again, started_later, two_of_late}}, proofs.{LinkAssertsRun.{can_give_way, sayable}, LinkLosers.{loser_comes_to_stay, loser_stays_loser}, Tested.{delivered_event, event_at, not_at, same_event}}}

abbrev n0 : Network
n0 = two_of_late

abbrev pub n1 : Network
n1 = (moved n0 says_again).1

abbrev n2 : Network
n2 = (moved n1 hears_it).1

abbrev n3 : Network
n3 = (moved n2 goes_on).1

abbrev its : Key
its = winner_key group 0 better beside

abbrev key : Key
key = loser_key group 0 better beside

-- ---- where each router is

abbrev pub said_again : Station
said_again = record nearer_station { state = (step nearer_station.state (advance 177000)).state }

nearer_0 : station_at n0 0 ≡ Some nearer_station
unfolding station_at
nearer_0 = refl

farther_0 : station_at n0 1 ≡ Some farther_station
unfolding station_at
farther_0 = refl

speaks : IsStepped n0 0 nearer_station (advance 177000) n1
speaks = is_moved n0 0 nearer_station (advance 177000) nearer_0

farther_1 : station_at n1 1 ≡ Some farther_station
farther_1 = (speaks).beside 1 refl ∙ farther_0

abbrev said_bytes : Sent
said_bytes = record { link = Some 1; bytes = assert_packet beside.address group 0 better }

told : drop (length n0.frames) n1.frames ≡ said_bytes ∷ []
unfolding machine_on_literals join_packet
told = refl

framed : frame_at n1 1 ≡ Some said_bytes
unfolding machine_on_literals join_packet
framed = refl

its_link : slice_get farther_station.links 0 ≡ Some 1
its_link = refl

abbrev heard : Event
heard = record { draw = 7; kind = EventKind.Frame (record { number = 0 }) (assert_packet beside.address group 0 better) }

abbrev pub lost_then : Station
lost_then = record farther_station { state = (step farther_station.state heard).state }

pub hears : IsStepped n1 1 farther_station heard n2
hears = is_delivered n1 1 farther_station 0 1 7 1 (assert_packet beside.address group 0 better) farther_1 its_link framed

abbrev lost_later : Station
lost_later = record lost_then { state = (step (lost_then).state (advance 2500)).state }

pub nearer_2 : station_at n2 0 ≡ Some said_again
nearer_2 = (hears).beside 0 refl ∙ (speaks).here

passes : IsStepped n2 1 lost_then (advance 2500) n3
passes = is_moved n2 1 lost_then (advance 2500) (hears).here

nearer_3 : station_at n3 0 ≡ Some said_again
nearer_3 = (passes).beside 0 refl ∙ nearer_2

-- ---- times and rows

pub time_1 : ((said_again).state).present ≡ 177000
unfolding machine_on_literals join_packet
time_1 = refl

no_time : (farther_station.state).present ≡ 0
unfolding machine_on_literals join_packet
no_time = refl

pub still_no_time : ((lost_then).state).present ≡ 0
unfolding machine_on_literals join_packet
still_no_time = refl

later_time : ((lost_later).state).present ≡ 2500
unfolding machine_on_literals join_packet
later_time = refl

abbrev won : ℕ → AssertRow
won end = record { role = AssertRole.Winner; winner = better; end = end }

row_0 : row_at (nearer_station.state).asserts its ≡ Some (won 177000)
unfolding machine_on_literals join_packet
row_0 = refl

pub row_1 : row_at ((said_again).state).asserts its ≡ Some (won 354000)
unfolding machine_on_literals join_packet
row_1 = refl

row_2 : row_at ((lost_then).state).asserts key ≡ Some (lost_to (winner_of group 0 better beside) 180000)
unfolding machine_on_literals join_packet
row_2 = refl

-- ---- the nearer one wins

wins_0 : Wins group 0 better beside n0
unfolding machine_on_literals join_packet
wins_0 = record { station = nearer_station; there = nearer_0; row = won 177000; found = row_0; wins = refl; sent = refl; own = refl; linked = refl }

pub wins_at : (n : Network) → station_at n 0 ≡ Some said_again → Wins group 0 better beside n
unfolding machine_on_literals join_packet
wins_at n at = record { station = said_again; there = at; row = won 354000; found = row_1; wins = refl; sent = refl; own = refl; linked = refl }

-- ---- what is asked of each move

module _ (n n' : Network) (a a' b' : Station) (x p q : ℕ) (at : station_at n 0 ≡ Some a) (row : row_at (a.state).asserts its ≡ Some (won x))
    (then : station_at n' 0 ≡ Some a') (other : station_at n' 1 ≡ Some b') (first : (a'.state).present ≡ p) (second : (b'.state).present ≡ q)
    (low : p + 0 ≤ x + 0 + 1000) (up : q + 177000 ≤ x + 0 + 1000) where
  ends_at : (st : Station) (r : AssertRow) → station_at n 0 ≡ Some st → row_at (st.state).asserts its ≡ Some r → r.end ≡ x
  ends_at st r there found =
      let same : Some r ≡ Some (won x) = sym found ∙ (ap (λ (z : Station). row_at (z.state).asserts its) (same_station there at) ∙ row) in cc

  pub timely : (st : Station) (r : AssertRow) → station_at n 0 ≡ Some st → row_at (st.state).asserts its ≡ Some r
      → IsBy started_later 0 (r.end + started_later 0 + late_assert) n' × IsBy started_later 1 (r.end + started_later 0 + late_assert) n'
  timely st r there found =
      subst (λ (e : ℕ). IsBy started_later 0 (e + started_later 0 + late_assert) n' × IsBy started_later 1 (e + started_later 0 + late_assert) n')
      (sym (ends_at st r there found)) (
        λ z is. subst (λ (y : Station). time_at started_later 0 y ≤ x + 0 + 1000) (same_station then is)
            (subst (λ (t : ℕ). t + 0 ≤ x + 0 + 1000) (sym first) low),
        λ z is. subst (λ (y : Station). time_at started_later 1 y ≤ x + 0 + 1000) (same_station other is)
            (subst (λ (t : ℕ). t + 177000 ≤ x + 0 + 1000) (sym second) up),
      )

at_first : event_of n0 says_again ≡ Some (0, advance 177000)
at_first = event_at n0 0 nearer_station (advance 177000) nearer_0

at_second : event_of n1 hears_it ≡ Some (1, heard)
at_second = delivered_event n1 1 0 1 7 1 (assert_packet beside.address group 0 better) farther_station farther_1 its_link framed

at_third : event_of n2 goes_on ≡ Some (1, advance 2500)
at_third = event_at n2 1 lost_then (advance 2500) (hears).here

apart_0 : (let a : ℕ = 1 in let b : ℕ = 0 in a ≡ b) → ⊥
apart_0 e = cc

apart_1 : (let a : ℕ = 0 in let b : ℕ = 1 in a ≡ b) → ⊥
apart_1 e = cc

stays : survives key (winner_of group 0 better beside) farther_station.state 7
    (Some (Accepted.Assert (record { number = 0 }) (addr beside.address) (said group 0 better))) ≡ true
unfolding machine_on_literals join_packet survives needs_no_clearing passes_throughout
stays = refl

no_sooner : (a b : ℕ) → a ≡ 177000 → b ≡ 0 → a + 0 ≤ b + 177000
no_sooner a b e f = omega (arith, e, f)

comes : AssertComesBy group 0 better late_assert started_later beside 1 (time_at started_later 0 said_again) n1 (hears_it ∷ goes_on ∷ [])
comes = inl (record {
  draw = 7;
  is = refl;
  station = farther_station;
  there = farther_1;
  can = can_give_way;
  stays = stays;
  after = no_sooner ((said_again).state).present (farther_station.state).present time_1 no_time;
})

it_comes : (st : Station) (number : ℕ) → station_at n1 0 ≡ Some st → length n0.frames < number → frame_at n1 number ≡ Some said_bytes
    → AssertComesBy group 0 better late_assert started_later beside number (time_at started_later 0 st) n1 (hears_it ∷ goes_on ∷ [])
it_comes st number at later got =
    let first : IsFirst number 1 said_bytes said_bytes = only_new n0 n1 said_bytes said_bytes number told later got in
    subst (λ (k : ℕ). AssertComesBy group 0 better late_assert started_later beside k (time_at started_later 0 st) n1 (hears_it ∷ goes_on ∷ [])) (sym first.number)
    (subst (λ (z : Station). AssertComesBy group 0 better late_assert started_later beside 1 (time_at started_later 0 z) n1 (hears_it ∷ goes_on ∷ []))
    (same_station (speaks).here at) comes)

first_in_time : AssertInTime group 0 better late_assert started_later beside n0 says_again (hears_it ∷ goes_on ∷ [])
first_in_time = record {
  timer = timely n0 n1 nearer_station said_again farther_station 177000 177000 0 nearer_0 row_0 (speaks).here farther_1 time_1 no_time (lit≤ tt) (lit≤ tt);
  asserts = λ e st number ev at later got. it_comes st number at later got;
  keeps = λ e st end ev at lost. absurd (not_at n0 says_again 1 0 (advance 177000) at_first apart_1 e ev);
}

was_winner : is_winner (row_at (farther_station.state).asserts key) ≡ true
unfolding machine_on_literals join_packet
was_winner = refl

not_lost : (end : ℕ) → LosesUntil farther_station.state key (winner_of group 0 better beside) end → ⊥
not_lost end f = both_ways (is_winner (row_at (farther_station.state).asserts key)) (ap is_winner f.found) was_winner

second_in_time : AssertInTime group 0 better late_assert started_later beside n1 hears_it (goes_on ∷ [])
second_in_time = record {
  timer = timely n1 n2 said_again said_again lost_then 354000 177000 0 (speaks).here row_1 nearer_2 (hears).here time_1 still_no_time (lit≤ tt) (lit≤ tt);
  asserts = λ e st number ev at later got. absurd (not_at n1 hears_it 0 1 heard at_second apart_0 e ev);
  keeps = λ e st end ev at lost.
      absurd (not_lost end (subst (λ (z : Station). LosesUntil z.state key (winner_of group 0 better beside) end) (sym (same_station farther_1 at)) lost));
}

is_done : done_as (happens (lost_then).state (advance 2500)) ≡ Some (Accepted.Advance 2500)
unfolding machine_on_literals join_packet
is_done = refl

stays_on : survives key (winner_of group 0 better beside) (lost_then).state 0 (done_as (happens (lost_then).state (advance 2500))) ≡ true
unfolding machine_on_literals join_packet survives survives_instant survives_timer needs_no_clearing passes_throughout
stays_on = refl

kept_on : (end : ℕ) → KeepsLoss (lost_then).state key (winner_of group 0 better beside) end (advance 2500)
kept_on end = record { own = ap (ends_loss (lost_then).state key (winner_of group 0 better beside) end) is_done; way = stays_on }

third_in_time : AssertInTime group 0 better late_assert started_later beside n2 goes_on []
third_in_time = record {
  timer = timely n2 n3 said_again said_again lost_later 354000 177000 2500 nearer_2 row_1 nearer_3 (passes).here time_1 later_time (lit≤ tt) (lit≤ tt);
  asserts = λ e st number ev at later got. absurd (not_at n2 goes_on 0 1 (advance 2500) at_third apart_0 e ev);
  keeps = λ e st end ev at lost.
      subst (λ (z : Station). KeepsLoss z.state key (winner_of group 0 better beside) end e) (same_station (hears).here at)
      (subst (λ (y : Event). KeepsLoss (lost_then).state key (winner_of group 0 better beside) end y) (same_event at_third ev) (kept_on end));
}

-- ---- all together

accepted : config_test farther ≡ Ok tt
unfolding machine_on_literals
accepted = refl

pub ready : IsReady 1 n0
unfolding station_at
ready = record {
  station = farther_station;
  there = refl;
  at_rest = run_is_at_rest (opening farther) farther_events (opening_is_at_rest farther accepted);
  timed = run_is_timed farther farther_events;
}

in_time : AssertsComeInTime group 0 better late_assert started_later beside n0 asserting
in_time = record {
  sayable = sayable;
  about = refl;
  ready = ready;
  wins = (wins_0, (wins_at n1 (speaks).here, (wins_at n2 nearer_2, wins_at n3 nearer_3)));
  in_time = (first_in_time, (second_in_time, (third_in_time, tt)));
}

by_then : AssertsBy group 0 better late_assert next_assert_bound started_later beside n0
by_then = record { station = nearer_station; there = nearer_0; row = won 177000; found = row_0; by = lit≤ tt }

pub nearer_asserts_in_time : NearerAssertsInTime
nearer_asserts_in_time = (in_time, by_then)

pub farther_comes_to_lose : FartherComesToLose
farther_comes_to_lose =
    loser_comes_to_stay group 0 better late_assert next_assert_bound started_later beside n0 asserting (lit< tt) in_time by_then

in_time_then : AssertsComeInTime group 0 better late_assert started_later beside n2 (goes_on ∷ [])
in_time_then = record {
  sayable = sayable;
  about = refl;
  ready = ready_then 1 n1 hears_it (ready_then 1 n0 says_again ready);
  wins = (wins_at n2 nearer_2, wins_at n3 nearer_3);
  in_time = (third_in_time, tt);
}

pub by_later : AssertsBy group 0 better late_assert later_bound started_later beside n2
by_later = record { station = said_again; there = nearer_2; row = won 354000; found = row_1; by = lit≤ tt }

pub loses_beyond : LosesBeyond group 0 better later_bound started_later beside n2
loses_beyond = record {
  station = lost_then;
  there = (hears).here;
  end = 180000;
  loses = record { until = 180000; found = row_2; lasts = lit≤ tt };
  lasts = lit< tt;
}

pub farther_stays_loser : FartherStaysLoser
farther_stays_loser = (
  in_time_then,
  by_later,
  loses_beyond,
  loser_stays_loser group 0 better late_assert later_bound started_later beside n2 (goes_on ∷ []) (lit< tt) in_time_then by_later loses_beyond,
)
