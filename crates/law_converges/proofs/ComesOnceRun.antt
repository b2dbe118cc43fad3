-- The premises, computed by their tests, and so the packet is on the host's link once.
use Rattle.std.{proofs.Common.{◌≡◌, ℕ, ◌+◌, ◌*◌, ◌≤◌, List, [], ◌∷◌, length, Bool, true, false, inl, Some, refl, sym, subst, lit≤}}
use Rattle.pim_ip.{specs.Ipv4.{is_link_local, is_multicast, packet_of}}
use Rattle.pim_model.{specs.{Network.{Move, Network, Station, event_of, moved, network_ran, station_at}}}
use Rattle.law_streams.{specs.{InTimeJoins.{IsReady, time_at}, Joins.join_packet, Passing.Receiver, Roots.{IsBrought, IsRegister}}, proofs.{Computed.{stand, stands_there}, Pairs.ready_then, StreamRoots.each_register_is_brought}}
use Rattle.pim_runs.{specs.{InTime.started, ServedChain.{asked_group, content, register, root, sender, sent_packet}, Words.unicast}, proofs.OnLiterals.machine_on_literals}
use Rattle.law_converges.{specs.{Carried.{EachMove, IsSentBy}, ComesOnce.{AreForwarding, AreServedOnce, ComesOnce, Forwards, HearsAll, SendsDown}, ComesOnceRun.{ChainForwards, ChainServesOnce, all_came, all_joined, at_rp, coming_down, first_move, first_on_low, its_register, joined_by, second_on_high, so_far, soon, to_first, to_host, traffic}, JoinedWaysRun.{joining, unjoined}, Past.{ArePast, HoldsPast, HoldsPastOn}}, proofs.{CarriedNetworkRun.nowhere, CarriedTests.{carries_so, carries_test, each_move_so, move_test, sent_by_so, sent_by_test}, CarriedWays.ready_past, ComesOnce.each_packet_comes_once, JoinedWaysRun.{first_ready, second_ready, third_ready}, Past.both_past, Tested.{past_so, past_test}, WayTests.{forwards_at, forwards_so, past_run, past_run_so, sends_at, sends_so}}}

abbrev all_moves : List Move
all_moves = first_move ∷ its_register ∷ coming_down

-- ---- the tests

counted : length (all_joined).frames ≡ so_far
unfolding machine_on_literals join_packet
counted = refl

sent_passes : move_test (sent_by_test soon soon started traffic) all_joined all_moves ≡ true
unfolding machine_on_literals join_packet
sent_passes = refl

low_passes : carries_test soon soon started traffic 1 (first_on_low ∷ []) all_came all_joined all_moves ≡ true
unfolding machine_on_literals join_packet
low_passes = refl

high_passes : carries_test soon soon started traffic 2 (second_on_high ∷ []) all_came all_joined all_moves ≡ true
unfolding machine_on_literals join_packet
high_passes = refl

first_passes : past_run started joined_by 2 (forwards_at asked_group sender to_host Receiver.Host) all_joined all_moves ≡ true
unfolding machine_on_literals join_packet
first_passes = refl

second_passes : past_run started joined_by 2 (forwards_at asked_group sender to_first Receiver.Router) all_joined all_moves ≡ true
unfolding machine_on_literals join_packet
second_passes = refl

root_passes : past_run started joined_by 2 (sends_at asked_group sender at_rp) all_joined all_moves ≡ true
unfolding machine_on_literals join_packet
root_passes = refl

-- ---- what holds

ready_ran : (r : ℕ) (ms : List Move) (n : Network) → IsReady r n → IsReady r (network_ran n ms).1
unfolding network_ran
ready_ran r [] n f = f
ready_ran r (m ∷ ms) n f = ready_ran r ms (moved n m).1 (ready_then r n m f)

module _ (P : Network → Type 0) (p : Network → Bool) (r : ℕ) (so : (n : Network) → IsReady r n → p n ≡ true → P n) (ready : IsReady r unjoined)
    (passes : past_run started joined_by 2 p all_joined all_moves ≡ true) where
  by_test : HoldsPast started joined_by P all_joined all_moves
  by_test =
      both_past started joined_by (IsReady r) (λ n. p n ≡ true) P so all_moves all_joined
      (ready_past started joined_by r all_moves all_joined (ready_ran r joining unjoined ready))
      (past_run_so started joined_by 2 p (λ n. p n ≡ true) (λ n e. e) all_moves all_joined passes)

sent : EachMove (IsSentBy started traffic) all_joined all_moves
sent = each_move_so (sent_by_test soon soon started traffic) (IsSentBy started traffic) (sent_by_so soon soon started traffic) all_moves all_joined sent_passes

none_beyond : so_far ≤ length (all_joined).frames
none_beyond = subst (λ (k : ℕ). so_far ≤ k) (sym counted) (lit≤ tt)

forwarding : HoldsPast started joined_by (AreForwarding asked_group sender at_rp 3 (to_host ∷ to_first ∷ [])) all_joined all_moves
forwarding =
    both_past started joined_by (Forwards asked_group sender to_host) (λ n. Forwards asked_group sender to_first n × SendsDown asked_group sender at_rp n)
    (AreForwarding asked_group sender at_rp 3 (to_host ∷ to_first ∷ [])) (λ n a b. (refl, a, refl, (refl, b.0, refl, (refl, b.1)))) all_moves
    all_joined
    (by_test (Forwards asked_group sender to_host) (forwards_at asked_group sender to_host Receiver.Host) 0 (forwards_so asked_group sender to_host Receiver.Host) first_ready
    first_passes)
    (both_past started joined_by (Forwards asked_group sender to_first) (SendsDown asked_group sender at_rp)
    (λ n. Forwards asked_group sender to_first n × SendsDown asked_group sender at_rp n) (λ n a b. (a, b)) all_moves all_joined
    (by_test (Forwards asked_group sender to_first) (forwards_at asked_group sender to_first Receiver.Router) 1 (forwards_so asked_group sender to_first Receiver.Router)
    second_ready second_passes)
    (by_test (SendsDown asked_group sender at_rp) (sends_at asked_group sender at_rp) 2 (sends_so asked_group sender at_rp refl) third_ready root_passes))

low_hears : HearsAll soon started traffic all_came all_joined all_moves to_host
low_hears = record {
  members = first_on_low ∷ [];
  among = inl refl;
  carries = carries_so soon soon started traffic 1 (first_on_low ∷ []) all_moves all_joined all_came low_passes;
  behind = none_beyond;
}

high_hears : HearsAll soon started traffic all_came all_joined all_moves to_first
high_hears = record {
  members = second_on_high ∷ [];
  among = inl refl;
  carries = carries_so soon soon started traffic 2 (second_on_high ∷ []) all_moves all_joined all_came high_passes;
  behind = none_beyond;
}

pub chain_forwards : ChainForwards
chain_forwards = (sent, (low_hears, (high_hears, tt)), forwarding)

-- ---- the packet

is_register : IsRegister asked_group sender root register content 3
unfolding machine_on_literals
is_register = record {
  outer = packet_of register;
  reads = refl;
  of_pim = refl;
  destination = refl;
  inner = sent_packet;
  packet = packet_of sent_packet;
  is = refl;
  inner_reads = refl;
  fits = lit≤ tt;
  group = refl;
  source = refl;
  is_data = refl;
  same = refl;
  time_to_live = refl;
}

abbrev then_there : Network
then_there = (moved all_joined first_move).1

abbrev rp_before : Station
rp_before = stand nowhere then_there 2

abbrev rp_after : Station
rp_after = stand nowhere (moved then_there its_register).1 2

before_there : station_at then_there 2 ≡ Some rp_before
unfolding machine_on_literals join_packet
before_there = stands_there nowhere then_there 2 refl

after_there : station_at (moved then_there its_register).1 2 ≡ Some rp_after
unfolding machine_on_literals join_packet
after_there = stands_there nowhere (moved then_there its_register).1 2 refl

is_event : event_of then_there its_register ≡ Some (2, unicast register)
unfolding machine_on_literals join_packet
is_event = refl

brought : IsBrought (rp_before).state (unicast register) asked_group sender 0 content 3
unfolding machine_on_literals join_packet
brought = each_register_is_brought (rp_before).state asked_group root sender 0 0 3 register content refl refl refl refl refl is_register

its_time : time_at started 2 rp_after + 2 * soon ≡ 239201
unfolding machine_on_literals join_packet
its_time = refl

begun_is_past : past_test started (λ q r. refl) joined_by then_there ≡ true
unfolding machine_on_literals join_packet
begun_is_past = refl

end_passes : past_test started (λ q r. refl) 239201 (network_ran (moved then_there its_register).1 coming_down).1 ≡ true
unfolding machine_on_literals join_packet
end_passes = refl

is_group : is_multicast asked_group ≡ true
unfolding machine_on_literals
is_group = refl

goes_far : is_link_local asked_group ≡ false
unfolding machine_on_literals
goes_far = refl

served : HoldsPastOn started joined_by (AreServedOnce asked_group sender soon started traffic at_rp 3 (to_host ∷ to_first ∷ [])) all_joined all_moves
served =
    each_packet_comes_once asked_group sender soon joined_by started traffic all_came at_rp 3 (to_host ∷ to_first ∷ []) all_joined all_moves is_group
    goes_far (chain_forwards).0 (chain_forwards).1 (chain_forwards).2

pub chain_serves_once : ChainServesOnce
chain_serves_once =
    subst (λ (by : ℕ). ComesOnce asked_group sender 3 content 1 by traffic at_rp (to_host ∷ to_first ∷ []) then_there its_register coming_down) its_time
    (((served).0 (past_so started (λ q r. refl) joined_by then_there begun_is_past)).0.served (unicast register) rp_before rp_after content 1 is_event
    before_there after_there (lit≤ tt) brought tt
    (subst (λ (by : ℕ). ArePast started by (network_ran (moved then_there its_register).1 coming_down).1) (sym its_time)
    (past_so started (λ q r. refl) 239201 (network_ran (moved then_there its_register).1 coming_down).1 end_passes)))
