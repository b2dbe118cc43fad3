-- The premises, computed by their tests.
use Rattle.std.{proofs.Common.{Bool, List, Ok, Some, [], arith, eqb-true, false, inl, inr, length, nat_lt, not, refl, true, ℕ, ◌&&◌, ◌∷◌, ◌==◌, ◌≡◌, ◌≤◌, lit<, lit≤}, specs.{Option.option_map_or, Prelude.slice_get}}
use Rattle.pim_ip.{specs.{Addr.addr, Ipv4.packet_of}}
use Rattle.pim_types.{specs.declared.{event.EventKind.EventKind, fact.AssertMetric.AssertMetric}}
use Rattle.pim_model.{specs.{Asserts.{asserted_metric, could_assert_at, is_inferior}, Full.is_full, Limits.config_test, Neighbours.is_neighbour, Network.{At, Move, Network, Sent, Station, frame_at, moved, network_ran, station_at}, Rows.same_metric, State.{iface_count, is_own, is_up, my_address, opening}, Tables.{row_at, same_option}, declared.accepted.Accepted.Accepted}}
use Rattle.law_events.{proofs.SameRows.metrics}
use Rattle.law_streams.{proofs.{Computed.{stand, stands_there, with_station}, Pairs.ready_then}, specs.{Adjacent.Adjacent, InTimeJoins.{Always, IsBy, IsReady, time_at}, Joins.join_packet, Served.renewed}}
use Rattle.pim_runs.{proofs.OnLiterals.machine_on_literals, specs.{Base.{base, group}, InTime.started, Packets.packet, Words.frame}}
use Rattle.law_converges.{proofs.{CarriedTests.{carries_so, carries_test, each_move_so, move_test, prompt_so, prompt_test, sent_by_so, sent_by_test}, ClaimTests.{assert_is_assert, claim_test, is_assert, loser_keeps, loser_keeps_so, off_at, off_tree, off_tree_so, yields_so}, KeepsTests.{delivered_so, delivery_test}, LinkAssertsRun.sayable, OneSenderIsLeft.{one_of_all_is_left, one_sender_is_left, other_comes_to_lose}, Tested.{Found, each_found, else_so, found, lt_so, off_so, or_else, ready_by, same_so, then}}, specs.{Carried.{EachMove, IsCarried, IsPrompt, IsSentBy}, CarriedLinks.{Yields}, LinkAsserts.{IsSayable, assert_packet, said}, LinkAssertsRun.{better, farther}, LinkDr.{Member, between}, LinkLosers.{Wins, needs_no_clearing, passes_throughout, survives, survives_instant, survives_timer, winner_key, winner_of}, OneSender.IsOffTree, OneSenderRun.copied_there, OneSenderIsLeft.{Answers, CanAnswer, FirstHears, HearsDuplicate, StaysWinner, stands_firm}, OneSenderIsLeftRun.{BothAssert, BothSend, FartherIsSilent, both_joined, both_sent, both_would, comes, farther_events, farther_there, moves, nearer_there, none_came, one_left, one_sent, soon, traffic, worse}}}

-- ---- tests

-- who wins after each move stays the winner
stays_so : (g src : ℕ) (metric : AssertMetric) (c : Adjacent) (m : Move) (ms : List Move) (n : Network)
    → Always (Wins g src metric c) (moved n m).1 ms → EachMove (StaysWinner g src metric c) n (m ∷ ms)
stays_so g src metric c m [] n f = (record { begins = λ l. f; stays = λ w. f }, tt)
stays_so g src metric c m (k ∷ ms) n f = (record { begins = λ l. f.0; stays = λ w. f.0 }, stays_so g src metric c k ms (moved n m).1 f.1)

module _ (g src : ℕ) (metric other : AssertMetric) (link : ℕ) (x y : Member) where
  abbrev theirs : AssertMetric
  theirs = winner_of g src other (between link y x)

  abbrev answers_at : Station → Bool
  answers_at st =
      nat_lt x.iface (iface_count st.state) && (is_up st.state x.iface && (is_neighbour st.state x.iface y.address && (not (is_own st.state y.address)
      && (same_option (slice_get st.links x.iface) (Some link)
      && (not (is_full st.state (Accepted.Assert (record { number = x.iface }) (addr y.address) (said g src other)))
      && (could_assert_at st.state (winner_key g src metric (between link x y))
      && (stands_firm theirs (row_at (st.state).asserts (winner_key g src metric (between link x y)))
      && (is_inferior st.state (winner_key g src metric (between link x y)) theirs
      && (same_metric (asserted_metric st.state (winner_key g src metric (between link x y))) metric
      && (my_address st.state x.iface == x.address))))))))))

  abbrev answers_frame : Network → (k draw : ℕ) → Bool
  answers_frame n k draw =
      option_map_or (λ (f : Sent). or_else (not (is_assert f)) (λ u. option_map_or answers_at (station_at n x.router) false)) (frame_at n k) true

  answer_so : (n : Network) → option_map_or answers_at (station_at n x.router) false ≡ true → CanAnswer g src metric other link x y n
  answer_so n e =
      let f : Found Station answers_at (station_at n x.router) = found Station answers_at (station_at n x.router) e in
      then f.passes (λ configured e. then e (λ up e. then e (λ neighbour e. then e (λ apart e. then e (λ linked e. then e (λ room e.
      then e (λ could e. then e (λ firm e. then e (λ inferior e. then e (λ sent own. record {
        heard = record {
          station = f.it;
          there = f.is;
          linked = same_so _ _ linked;
          hears = record { configured = lt_so _ _ configured; up = up; neighbour = neighbour; other = off_so _ apart };
          room = off_so _ room;
        };
        could = could;
        firm = firm;
        inferior = inferior;
        sent = metrics _ _ sent;
        own = eqb-true _ _ own;
      }))))))))))

  abbrev answers_test : Network → Move → Network → Bool
  answers_test n m next = delivery_test x.router x.iface (λ k draw. answers_frame n k draw) m

  answers_so : (n : Network) (m : Move) → answers_test n m (moved n m).1 ≡ true → Answers g src metric other link x y n m
  answers_so n m e number draw is framed =
      answer_so n
      (else_so (is_assert its) (λ u. option_map_or answers_at (station_at n x.router) false)
      (each_found (λ (f : Sent). or_else (not (is_assert f)) (λ u. option_map_or answers_at (station_at n x.router) false)) (frame_at n number) its
      (delivered_so x.router x.iface (λ k draw. answers_frame n k draw) m e number draw is) framed) (assert_is_assert link y.address g src other))
    where
      its : Sent
      its = record { link = Some link; bytes = assert_packet y.address g src other }

-- ---- the run

abbrev nowhere : Station
nowhere = record { links = []; state = opening base }

abbrev heard : Network
heard = (moved both_sent comes).1

farther_accepted : config_test farther ≡ Ok tt
unfolding machine_on_literals
farther_accepted = refl

ready : IsReady 1 both_joined
unfolding station_at
ready = ready_by both_joined 1 (1 ∷ 10 ∷ []) farther farther_events farther_accepted refl

sent_passes : move_test (sent_by_test soon soon started traffic) both_sent (comes ∷ moves) ≡ true
unfolding machine_on_literals join_packet
sent_passes = refl

prompt_passes : move_test (prompt_test soon soon started traffic (λ q r. refl)) both_sent (comes ∷ moves) ≡ true
unfolding machine_on_literals join_packet
prompt_passes = refl

carries_passes : carries_test soon soon started traffic 1 (nearer_there ∷ farther_there ∷ []) none_came both_sent (comes ∷ moves) ≡ true
unfolding machine_on_literals join_packet
carries_passes = refl

carried : IsCarried soon soon started traffic none_came 1 (nearer_there ∷ farther_there ∷ []) 0 both_sent (comes ∷ moves)
carried = record {
  timely = lit≤ tt;
  sent = each_move_so (sent_by_test soon soon started traffic) (IsSentBy started traffic)
      (sent_by_so soon soon started traffic) (comes ∷ moves) both_sent sent_passes;
  prompt = each_move_so (prompt_test soon soon started traffic (λ q r. refl)) (IsPrompt soon started)
      (prompt_so soon soon started traffic (λ q r. refl)) (comes ∷ moves) both_sent prompt_passes;
  carries = carries_so soon soon started traffic 1 (nearer_there ∷ farther_there ∷ []) (comes ∷ moves) both_sent none_came carries_passes;
  since = λ y a. lit≤ tt;
  behind = λ y a. least (length both_sent.frames);
}
  where
    least : (a : ℕ) → 0 ≤ a
    least a = omega arith

claim_passes : claim_test soon soon started group 0 better (between 1 nearer_there farther_there) heard moves ≡ true
unfolding machine_on_literals join_packet survives survives_instant survives_timer needs_no_clearing passes_throughout
claim_passes = refl

first_keeps : loser_keeps soon soon started group 0 better (between 1 nearer_there farther_there) both_sent comes ≡ true
unfolding machine_on_literals join_packet survives survives_instant survives_timer needs_no_clearing passes_throughout
first_keeps = refl

first_off : off_at soon soon started group 0 better (between 1 nearer_there farther_there) both_sent ≡ true
unfolding machine_on_literals join_packet
first_off = refl

answers_pass : move_test (answers_test group 0 better worse 1 nearer_there farther_there) both_sent (comes ∷ moves) ≡ true
unfolding machine_on_literals join_packet
answers_pass = refl

other_sayable : IsSayable (farther_there).address group 0 worse
unfolding machine_on_literals
other_sayable = record { from_host = refl; of_group = refl; goes_far = refl; of_source = lit< tt; preference_fits = lit< tt; metric_fits = lit< tt }

yields : Yields group 0 better (between 1 nearer_there farther_there) heard moves
yields = yields_so soon soon started group 0 better (between 1 nearer_there farther_there) heard moves sayable refl claim_passes

duplicate : HearsDuplicate group 0 better (between 1 nearer_there farther_there) both_sent comes
unfolding machine_on_literals join_packet renewed
duplicate = record {
  station = stand nowhere both_sent 0;
  there = stands_there nowhere both_sent 0 refl;
  event = record { draw = 7; kind = EventKind.Frame (record { number = 1 }) copied_there.bytes };
  is = refl;
  packet = packet_of copied_there.bytes;
  taken = refl;
  duplicate = record { off_source = refl; off_group = refl; listed = refl; could = refl; none = refl };
  about = refl;
  sent = refl;
  own = refl;
  linked = refl;
}

at_7 : IsBy started 0 7 heard
unfolding machine_on_literals join_packet
at_7 = λ st at. with_station nowhere heard 0 (λ (z : Station). time_at started 0 z ≤ 7) (lit≤ tt) st at

pub both_send : BothSend
both_send = record {
  few = lit< tt;
  carried = carried;
  lower = inl refl;
  upper = inr (inl refl);
  apart = refl;
  ready = ready_then 1 one_sent (At 1 (frame 1 packet)) (ready_then 1 both_joined (At 0 (frame 0 packet)) ready);
  sayable = sayable;
  about = refl;
  other_sayable = other_sayable;
  other_about = refl;
  wins = stays_so group 0 better (between 1 nearer_there farther_there) comes moves both_sent (yields).wins;
  answers = each_move_so (answers_test group 0 better worse 1 nearer_there farther_there) (Answers group 0 better worse 1 nearer_there farther_there)
      (answers_so group 0 better worse 1 nearer_there farther_there) (comes ∷ moves) both_sent answers_pass;
  hears = (loser_keeps_so soon soon started group 0 better (between 1 nearer_there farther_there) both_sent comes first_keeps, (yields).hears);
  begins = FirstHears 7 duplicate at_7 (lit≤ tt);
}

off : Always (IsOffTree group 0 better (between 1 nearer_there farther_there)) both_sent (comes ∷ moves)
off = (
  off_tree_so soon soon started group 0 better (between 1 nearer_there farther_there) both_sent first_off,
  off_tree soon soon started group 0 better (between 1 nearer_there farther_there) heard moves claim_passes,
)

pub farther_is_silent : FartherIsSilent
farther_is_silent = (
  other_comes_to_lose group 0 better worse soon soon one_left started traffic none_came 1 (nearer_there ∷ farther_there ∷ []) nearer_there
      farther_there 0 both_sent comes moves both_send,
  off,
  one_sender_is_left group 0 better worse soon soon one_left started traffic none_came 1 (nearer_there ∷ farther_there ∷ []) nearer_there
      farther_there 0 both_sent comes moves both_send off,
  one_of_all_is_left both_would soon soon one_left started traffic none_came (nearer_there ∷ farther_there ∷ []) 0 both_sent comes moves
      (record { other = worse; senders = both_send; off = off }, tt),
)

pub both_assert : BothAssert
unfolding machine_on_literals join_packet network_ran
both_assert = refl
