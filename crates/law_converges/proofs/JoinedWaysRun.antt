-- The premises, computed by their tests, and so the next hops of the way hold what is joined at the end.
use Rattle.std.{proofs.Common.{◌≡◌, ◌+◌, nat_lt, not, ◌&&◌, Bool, [], ◌∷◌, true, false, Ok, refl, lit<}, specs.Option.option_map_or}
use Rattle.pim_model.{specs.{Full.source_is_full, Limits.config_test, Network.{Network, Station, network_ran, station_at}, Sets.{assert_source, assert_star, is_loser, prunes, spt_bit}, State.{iface_count, is_own, is_up}, Unicast.{is_rpf_interface, is_rpf_interface_rp}}}
use Rattle.law_streams.{specs.{InTimeJoins.{Always, IsHeld, IsReady, Wants}, Joins.join_packet}}
use Rattle.pim_runs.{specs.{InTime.{joined, pair, started}, ServedChain.{asked_group, first, root, second, sender, third}, WayInTime.upper_pair}, proofs.{InTime.{accepted_second, its_group}, OnLiterals.machine_on_literals}}
use Rattle.law_converges.{specs.{JoinedWays.{AreHeldPast, AreHops, AreTogether, IsDue, a_hop}, JoinedWaysRun.{ChainComesInTime, ChainComesToBeJoined, ChainPassesOnce, first_asks, joining, lag, late, second_waits, third_waits, unjoined, way_bound}, PassedOnce.{IsOnTree, IsPassedOnce}}, proofs.{JoinTests.{first_due, first_test, first_wants, hop_test, is_hop_so}, JoinedWays.way_comes_to_be_joined, LinkDrRun.accepted_first, LinkJoinsRun.joins_over, PassedOnce.held_is_passed_once, Tested.{Found, all_together, always_so, ends_past, found, lt_so, off_so, past_so, past_test, ready_by, run_test, then, together_test}}}

accepted_third : config_test third ≡ Ok tt
unfolding machine_on_literals
accepted_third = refl

pub first_ready : IsReady 0 unjoined
unfolding station_at
first_ready = ready_by unjoined 0 (3 ∷ 1 ∷ []) first first_asks accepted_first refl

pub second_ready : IsReady 1 unjoined
unfolding station_at
second_ready = ready_by unjoined 1 (1 ∷ 2 ∷ []) second second_waits accepted_second refl

pub third_ready : IsReady 2 unjoined
unfolding station_at
third_ready = ready_by unjoined 2 (2 ∷ []) third third_waits accepted_third refl

-- ---- the tests

lower_passes : hop_test late way_bound started (joins_over pair) unjoined joining ≡ true
unfolding machine_on_literals join_packet
lower_passes = refl

upper_passes : hop_test late way_bound started (joins_over upper_pair) unjoined joining ≡ true
unfolding machine_on_literals join_packet
upper_passes = refl

first_passes : first_test late way_bound started (joins_over pair) unjoined joining ≡ true
unfolding machine_on_literals join_packet
first_passes = refl

together_passes : together_test lag started (λ q r. refl) unjoined joining ≡ true
unfolding machine_on_literals join_packet
together_passes = refl

-- ---- all together

hops : AreHops joined asked_group late started unjoined joining 0 (pair ∷ upper_pair ∷ [])
hops = (
  refl,
  is_hop_so late way_bound started (joins_over pair) unjoined joining first_ready second_ready lower_passes,
  (refl, is_hop_so late way_bound started (joins_over upper_pair) unjoined joining second_ready third_ready upper_passes, tt),
)

together : Always (AreTogether lag started) unjoined joining
together = all_together lag started (λ q r. refl) unjoined joining together_passes

wants : Always (Wants joined asked_group 0) unjoined joining
wants = first_wants late way_bound started (joins_over pair) unjoined joining first_passes

due : IsDue joined asked_group late way_bound started 0 unjoined
due = first_due late way_bound started (joins_over pair) unjoined joining first_passes

pub chain_comes_in_time : ChainComesInTime
unfolding machine_on_literals
chain_comes_in_time = (refl, refl, hops, together, wants, due)

-- ---- at the end

end_is_past : past_test started (λ q r. refl) (way_bound + a_hop late lag) (network_ran unjoined joining).1 ≡ true
unfolding machine_on_literals join_packet
end_is_past = refl

first_is_past : past_test started (λ q r. refl) way_bound (network_ran unjoined joining).1 ≡ true
unfolding machine_on_literals join_packet
first_is_past = refl

held : AreHeldPast joined asked_group late lag way_bound started unjoined joining (pair ∷ upper_pair ∷ [])
held =
    way_comes_to_be_joined joined asked_group late lag way_bound started unjoined joining 0 (pair ∷ upper_pair ∷ []) its_group (lit< tt)
    hops together wants due

pub chain_comes_to_be_joined : ChainComesToBeJoined
chain_comes_to_be_joined = (
  ends_past started way_bound (IsHeld joined asked_group pair) _ _ unjoined (held).0 (past_so started (λ q r. refl) way_bound (network_ran unjoined joining).1 first_is_past),
  ends_past started (way_bound + a_hop late lag) (IsHeld joined asked_group upper_pair) _ _ unjoined (held).1.0
      (past_so started (λ q r. refl) (way_bound + a_hop late lag) (network_ran unjoined joining).1 end_is_past),
)

-- ---- what comes down

-- the second router is on the sender's tree
abbrev on_tree_station : Station → Bool
on_tree_station st =
    nat_lt 1 (iface_count st.state) && (is_up st.state 1 && (not (is_own st.state sender) && (is_rpf_interface_rp st.state asked_group 1
    && (not (spt_bit st.state asked_group sender && not (is_rpf_interface st.state sender 1))
    && (nat_lt 0 (iface_count st.state) && (not (is_loser (assert_star st.state asked_group 0))
    && (not (is_loser (assert_source st.state asked_group sender 0)) && (not (prunes st.state asked_group sender 0)
    && not (source_is_full st.state asked_group sender)))))))))

abbrev on_tree_at : Network → Bool
on_tree_at n = option_map_or on_tree_station (station_at n 1) false

on_tree_so : (n : Network) → on_tree_at n ≡ true → IsOnTree asked_group sender 1 pair n
on_tree_so n e =
    let f : Found Station on_tree_station (station_at n 1) = found Station on_tree_station (station_at n 1) e in
    then f.passes (λ up e. then e (λ is_up e. then e (λ foreign e. then e (λ on e. then e (λ too e. then e (λ down e. then e (λ group e. then e
    (λ source e. then e (λ unpruned room. record {
      station = f.it;
      there = f.is;
      comes_in = record {
        configured = lt_so _ _ up;
        is_up = is_up;
        foreign = off_so _ foreign;
        on = record { on_tree = on; source_too = off_so _ too };
      };
      configured = lt_so _ _ down;
      group = off_so _ group;
      source = off_so _ source;
      unpruned = off_so _ unpruned;
      room = off_so _ room;
      apart = refl;
    })))))))))

tree_passes : run_test on_tree_at (λ n m next ms. true) unjoined joining ≡ true
unfolding machine_on_literals join_packet
tree_passes = refl

on_tree : Always (IsOnTree asked_group sender 1 pair) unjoined joining
on_tree = always_so on_tree_at (λ n m next ms. true) (IsOnTree asked_group sender 1 pair) on_tree_so joining unjoined tree_passes

pub chain_passes_once : ChainPassesOnce
chain_passes_once = (
  on_tree,
  ends_past started way_bound (IsPassedOnce asked_group sender 1 pair) _ _ unjoined
      (held_is_passed_once root asked_group sender 1 pair started way_bound unjoined joining second_ready on_tree (held).0)
      (past_so started (λ q r. refl) way_bound (network_ran unjoined joining).1 first_is_past),
)
