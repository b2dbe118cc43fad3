-- The premises, computed by their tests, and so the packet is on the first LAN once.
use Rattle.std.{proofs.Common.{◌≡◌, ℕ, ◌+◌, ◌*◌, List, [], ◌∷◌, ◌++◌, length, true, false, inl, Some, refl, sym, subst, lit≤}, specs.Option.option_map_or}
use Rattle.pim_ip.{specs.Ipv4.{header_text, is_link_local, packet_of}}
use Rattle.pim_types.{specs.declared.event.{Event.Event, EventKind.EventKind}}
use Rattle.pim_model.{specs.{Network.{At, Move, Network, Sent, Station, event_of, frame_at, moved, network_ran, station_at}}}
use Rattle.law_streams.{specs.{InTimeJoins.{IsReady, time_at}, Joins.join_packet, Passing.Receiver, Roots.{IsBrought, IsRegister}}, proofs.{Computed.{stand, stands_there}, StreamRoots.each_register_is_brought}}
use Rattle.pim_runs.{specs.{Base.rp, InTime.started, ServedChain.{asked_group, content}}, proofs.OnLiterals.machine_on_literals}
use Rattle.law_converges.{specs.{Carried.EachMove, CarriedNetworkRun.{before, bound, by_register, lag, moves, none_came, plan, serving, until_then, soon, source_sends, source_there, traffic}, CarriedWays.{AreOnTree, IsClear, pair_on, root_of}, CarriedWaysRun.{PlanBringsNothingElse, PlanIsOpen, PlanServesOnce, its_hop, sent_again, to_host}, ComesOnce.{AreAlonePast, AreServedOnce, ComesOnce, Forwards, IsServedOnce}, Past.{ArePast, HoldsPast, HoldsPastOn}}, proofs.{CarriedNetworkRun.{nearer_ready, nowhere, plan_is_quiet}, CarriedTests.{each_move_so, move_test}, CarriedWays.{carried_network_brings_nothing_else, carried_network_serves_once, ready_past}, Past.both_past, Tested.{past_so, past_test}, WayTests.{alone_so, alone_test, clear_at, clear_so, forwards_at, forwards_so, past_run, past_run_so, takes_so, takes_test}}}

-- ---- the tests

clear_passes : past_run started bound 2 (clear_at asked_group source_there (pair_on its_hop)) before moves ≡ true
unfolding machine_on_literals join_packet
clear_passes = refl

forwards_passes : past_run started bound 2 (forwards_at asked_group source_there to_host Receiver.Host) before moves ≡ true
unfolding machine_on_literals join_packet
forwards_passes = refl

low_alone : move_test (alone_test asked_group source_there 0 1) before moves ≡ true
unfolding machine_on_literals join_packet
low_alone = refl

high_alone : move_test (alone_test asked_group source_there 2 2) before moves ≡ true
unfolding machine_on_literals join_packet
high_alone = refl

takes_passes : move_test (takes_test asked_group source_there to_host) before moves ≡ true
unfolding machine_on_literals join_packet
takes_passes = refl

-- ---- what holds

pub on_tree : HoldsPast started bound (AreOnTree asked_group source_there its_hop []) before moves
on_tree =
    past_run_so started bound 2 (clear_at asked_group source_there (pair_on its_hop)) (IsClear asked_group source_there (pair_on its_hop))
    (clear_so asked_group source_there (pair_on its_hop)) moves before clear_passes

forwards : HoldsPast started bound (Forwards asked_group source_there to_host) before moves
forwards =
    both_past started bound (IsReady 0) (λ n. forwards_at asked_group source_there to_host Receiver.Host n ≡ true)
    (Forwards asked_group source_there to_host) (forwards_so asked_group source_there to_host Receiver.Host) moves before
    (ready_past started bound 0 moves before nearer_ready)
    (past_run_so started bound 2 (forwards_at asked_group source_there to_host Receiver.Host)
    (λ n. forwards_at asked_group source_there to_host Receiver.Host n ≡ true) (λ n e. e) moves before forwards_passes)

both_moves : (P Q R : Network → Move → Type 0) → ((n : Network) (m : Move) → P n m → Q n m → R n m) → (ms : List Move) (n : Network)
    → EachMove P n ms → EachMove Q n ms → EachMove R n ms
both_moves P Q R so [] n f g = tt
both_moves P Q R so (m ∷ ms) n f g = (so n m f.0 g.0, both_moves P Q R so ms (moved n m).1 f.1 g.1)

abbrev LowTest : Network → Move → Type 0
LowTest n m = alone_test asked_group source_there 0 1 n m (moved n m).1 ≡ true

abbrev HighTest : Network → Move → Type 0
HighTest n m = alone_test asked_group source_there 2 2 n m (moved n m).1 ≡ true

abbrev TakesTest : Network → Move → Type 0
TakesTest n m = takes_test asked_group source_there to_host n m (moved n m).1 ≡ true

alone : EachMove (AreAlonePast asked_group source_there started bound (root_of its_hop []) 1 (to_host ∷ [])) before moves
alone =
    both_moves LowTest (λ n m. HighTest n m × TakesTest n m)
    (AreAlonePast asked_group source_there started bound (root_of its_hop []) 1 (to_host ∷ []))
    (λ n m a b past. (
      (alone_so asked_group source_there 0 1 n m a, alone_so asked_group source_there 2 2 n m b.0),
      (takes_so asked_group source_there to_host n m b.1, tt),
    ))
    moves before
    (each_move_so (alone_test asked_group source_there 0 1) LowTest (λ n m e. e) moves before low_alone)
    (both_moves HighTest TakesTest (λ n m. HighTest n m × TakesTest n m) (λ n m a b. (a, b)) moves before
    (each_move_so (alone_test asked_group source_there 2 2) HighTest (λ n m e. e) moves before high_alone)
    (each_move_so (takes_test asked_group source_there to_host) TakesTest (λ n m e. e) moves before takes_passes))

pub plan_is_open : PlanIsOpen
plan_is_open = (record { among = inl refl; tree = on_tree; self = refl; above = refl; passes = forwards }, alone)

far : is_link_local asked_group ≡ false
unfolding machine_on_literals
far = refl

-- ---- so the packets come once

served : HoldsPastOn started bound (AreServedOnce asked_group source_there soon started traffic (root_of its_hop []) 1 (to_host ∷ [])) before moves
served =
    carried_network_serves_once asked_group source_there rp soon soon lag bound 0 started traffic none_came plan before moves its_hop [] to_host
    plan_is_quiet (plan_is_open).0

pub plan_brings_nothing_else : PlanBringsNothingElse
plan_brings_nothing_else =
    carried_network_brings_nothing_else asked_group source_there rp soon soon lag bound 0 started traffic none_came plan before moves its_hop []
    to_host plan_is_quiet (plan_is_open).0 (plan_is_open).1

-- ---- the second packet

-- what holds past the bound of the moves that follow some
pub on_after : (limit : ℕ) (P : Network → List Move → Type 0) (m : Move) (xs ys : List Move) (n : Network)
    → HoldsPastOn started limit P n (m ∷ xs ++ ys) → ArePast started limit (network_ran n (m ∷ xs)).1 → P (network_ran n (m ∷ xs)).1 ys
unfolding network_ran
on_after limit P m [] ys n f past = f.0 past
on_after limit P m (x ∷ xs) ys n f past = on_after limit P x xs ys (moved n m).1 f.1 past

-- the last of the moves before it
settled_is_past : past_test started (λ q r. refl) bound (network_ran before until_then).1 ≡ true
unfolding machine_on_literals join_packet
settled_is_past = refl

once : IsServedOnce asked_group source_there soon started traffic (root_of its_hop []) 1 (to_host ∷ []) sent_again by_register serving
once =
    (on_after bound (AreServedOnce asked_group source_there soon started traffic (root_of its_hop []) 1 (to_host ∷ [])) _ _
    (At 1 source_sends ∷ by_register ∷ serving) before served
    (past_so started (λ q r. refl) bound (network_ran before until_then).1 settled_is_past)).1.0

-- the Register
abbrev its_bytes : List ℕ
its_bytes = option_map_or (λ (f : Sent). f.bytes) (frame_at sent_again 55) []

abbrev its_event : Event
its_event = record { draw = 7; kind = EventKind.Unicast its_bytes }

abbrev inner : List ℕ
inner = header_text [] 15 17 source_there asked_group (length content) ++ content

is_event : event_of sent_again by_register ≡ Some (2, its_event)
unfolding machine_on_literals join_packet
is_event = refl

is_register : IsRegister asked_group source_there rp its_bytes content 14
unfolding machine_on_literals join_packet
is_register = record {
  outer = packet_of its_bytes;
  reads = refl;
  of_pim = refl;
  destination = refl;
  inner = inner;
  packet = packet_of inner;
  is = refl;
  inner_reads = refl;
  fits = lit≤ tt;
  group = refl;
  source = refl;
  is_data = refl;
  same = refl;
  time_to_live = refl;
}

abbrev rp_before : Station
rp_before = stand nowhere sent_again 2

abbrev rp_after : Station
rp_after = stand nowhere (moved sent_again by_register).1 2

brought : IsBrought (rp_before).state its_event asked_group source_there 0 content 14
unfolding machine_on_literals join_packet
brought = each_register_is_brought (rp_before).state asked_group rp source_there 7 0 14 its_bytes content far refl refl refl refl is_register

its_time : time_at started 2 rp_after + 1 * soon ≡ 402451
unfolding machine_on_literals join_packet
its_time = refl

end_passes : past_test started (λ q r. refl) 402451 (network_ran (moved sent_again by_register).1 serving).1 ≡ true
unfolding machine_on_literals join_packet
end_passes = refl

before_there : station_at sent_again 2 ≡ Some rp_before
unfolding machine_on_literals join_packet
before_there = stands_there nowhere sent_again 2 refl

after_there : station_at (moved sent_again by_register).1 2 ≡ Some rp_after
unfolding machine_on_literals join_packet
after_there = stands_there nowhere (moved sent_again by_register).1 2 refl

pub plan_serves_once : PlanServesOnce
plan_serves_once =
    subst (λ (by : ℕ). ComesOnce asked_group source_there 1 content 13 by traffic (root_of its_hop []) (to_host ∷ []) sent_again by_register serving)
    its_time
    ((once).served its_event rp_before rp_after content 13 is_event before_there after_there (lit≤ tt) brought tt
    (subst (λ (by : ℕ). ArePast started by (network_ran (moved sent_again by_register).1 serving).1) (sym its_time)
    (past_so started (λ q r. refl) 402451 (network_ran (moved sent_again by_register).1 serving).1 end_passes)))
