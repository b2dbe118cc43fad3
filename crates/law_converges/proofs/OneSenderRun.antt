-- The premises, computed.
use Rattle.std.{proofs.Common.{◌≡◌, ◌∙◌, ◌++◌, ℕ, List, Some, append-nil, ap, map, [], ◌∷◌, refl, subst, lit≤, lit<}}
use Rattle.pim_types.{specs.declared.{event.Event.Event, outcome.Emission.Emission}}
use Rattle.pim_model.{specs.{Network.{At, Network, Station, event_of, moved, sent_by, station_at, stepped}, Step.step}}
use Rattle.law_streams.{specs.{Joins.join_packet}, proofs.{Deliveries.{IsStepped, is_moved}, Pairs.{ready_then, same_station}}}
use Rattle.pim_runs.{specs.{Base.group, Packets.packet, Words.frame}, proofs.OnLiterals.machine_on_literals}
use Rattle.law_converges.{specs.{LinkAssertsRun.{beside, better}, LinkLosers.{AssertInTime, AssertsComeInTime, KeepsLoss, loser_key, needs_no_clearing, passes_throughout, survives, winner_of}, LinkLosersRun.{has_heard, hears_it, late_assert, later_bound, says_again, started_later, two_of_late}, OneSender.IsOffTree, OneSenderRun.{FartherSendsNone, copied_there, data_comes}}, proofs.{LinkAssertsRun.sayable, LinkLosersRun.{by_later, hears, loses_beyond, lost_then, n1, nearer_2, ready, row_1, said_again, time_1, timely, wins_at}, OneSender.at_most_one_sends, TakesOver.moved_so, Tested.{event_at, not_at, same_event}}}

pub frames_after : (n : Network) (r : ℕ) (st : Station) (e : Event) → station_at n r ≡ Some st
    → ((moved n (At r e)).1).frames ≡ n.frames ++ map (sent_by st.links) (step st.state e).emissions
unfolding stepped
frames_after n r st e at = ap (λ (x : Network). x.frames) (moved_so n (At r e) r e st (event_at n r st e at) at)

abbrev n2 : Network
n2 = has_heard

abbrev n4 : Network
n4 = (moved n2 data_comes).1

abbrev arrival : Event
arrival = frame 1 packet

abbrev has_data : Station
has_data = record lost_then { state = (step (lost_then).state arrival).state }

takes : IsStepped n2 1 lost_then arrival n4
takes = is_moved n2 1 lost_then arrival (hears).here

nearer_4 : station_at n4 0 ≡ Some said_again
nearer_4 = (takes).beside 0 refl ∙ nearer_2

no_later : ((has_data).state).present ≡ 0
unfolding machine_on_literals join_packet
no_later = refl

at_data : event_of n2 data_comes ≡ Some (1, arrival)
at_data = event_at n2 1 lost_then arrival (hears).here

apart_0 : (let a : ℕ = 1 in let b : ℕ = 0 in a ≡ b) → ⊥
apart_0 e = cc

kept_on : (end : ℕ) → KeepsLoss (lost_then).state (loser_key group 0 better beside) (winner_of group 0 better beside) end arrival
unfolding machine_on_literals join_packet survives needs_no_clearing passes_throughout
kept_on end = record { own = refl; way = refl }

in_time : AssertInTime group 0 better late_assert started_later beside n2 data_comes []
in_time = record {
  timer = timely n2 n4 said_again said_again has_data 354000 177000 0 nearer_2 row_1 nearer_4 (takes).here time_1 no_later (lit≤ tt) (lit≤ tt);
  asserts = λ e st number ev at later got. absurd (not_at n2 data_comes 0 1 arrival at_data apart_0 e ev);
  keeps = λ e st end ev at lost.
      subst (λ (z : Station). KeepsLoss z.state (loser_key group 0 better beside) (winner_of group 0 better beside) end e) (same_station (hears).here at)
      (subst (λ (y : Event). KeepsLoss (lost_then).state (loser_key group 0 better beside) (winner_of group 0 better beside) end y) (same_event at_data ev) (kept_on end));
}

come : AssertsComeInTime group 0 better late_assert started_later beside n2 (data_comes ∷ [])
come = record {
  sayable = sayable;
  about = refl;
  ready = ready_then 1 n1 hears_it (ready_then 1 two_of_late says_again ready);
  wins = (wins_at n2 nearer_2, wins_at n4 nearer_4);
  in_time = (in_time, tt);
}

off_tree : IsOffTree group 0 better beside n2
unfolding machine_on_literals join_packet
off_tree = record { station = lost_then; there = (hears).here; group = refl; source = λ e. cc e; beaten = λ e. cc e }

off_tree_then : IsOffTree group 0 better beside n4
unfolding machine_on_literals join_packet
off_tree_then = record { station = has_data; there = (takes).here; group = refl; source = λ e. cc e; beaten = λ e. cc e }

sent_before : ((moved two_of_late data_comes).1).frames ≡ copied_there ∷ []
unfolding machine_on_literals join_packet
sent_before = refl

quiet : (step (lost_then).state arrival).emissions ≡ []
unfolding machine_on_literals join_packet
quiet = refl

sent_then : ((moved has_heard data_comes).1).frames ≡ has_heard.frames
sent_then =
    frames_after n2 1 lost_then arrival (hears).here
    ∙ (ap (λ (es : List Emission). n2.frames ++ map (sent_by (lost_then).links) es) quiet ∙ append-nil n2.frames)

pub farther_sends_none : FartherSendsNone
farther_sends_none = (
  sent_before,
  sent_then,
  come,
  by_later,
  loses_beyond,
  (off_tree, off_tree_then),
  at_most_one_sends group 0 better late_assert later_bound started_later beside n2 (data_comes ∷ []) (lit< tt) come by_later loses_beyond (off_tree, off_tree_then),
)
