-- The premises, computed by their tests.
use Rattle.std.{proofs.Common.{Bool, List, Ok, Some, [], arith, false, inl, inr, lit<, lit≤, nat_lt, not, refl, subst, suc, sym, true, zero, ℕ, ◌&&◌, ◌*◌, ◌+◌, ◌||◌, ◌∷◌, ◌≡◌}, specs.Option.option_map_or}
use Rattle.pim_ip.{specs.Ipv4.{packet_of}}
use Rattle.pim_types.{specs.{declared.event.Event.Event}}
use Rattle.pim_model.{specs.{Full.source_is_full, Limits.config_test, Neighbours.is_dr, Network.{Move, Network, Station, event_of, moved, network_ran, station_at}, Receivers.local_receiver_include, Sets.{assert_source, is_loser, is_winner}, State.{iface_count, is_own, opening}, Tables.has_row, Unicast.is_connected}}
use Rattle.law_streams.{specs.{InTimeJoins.{Always, IsJoin, IsReady, IsUnlost, time_at}, Joins.join_packet, Served.{IsSourceJoined}, Sources.{IsConnectedAt, IsSent}, Turning.may_turn}, proofs.Computed.{stand, stands_there}}
use Rattle.pim_runs.{proofs.OnLiterals.machine_on_literals, specs.{InTime.started, ServedChain.content, Words.frame}}
use Rattle.law_converges.{proofs.{CarriedWaysRun.on_after, CarriedTests.{carries_so, carries_test, each_move_so, move_test, prompt_so, prompt_test, sent_by_so, sent_by_test}, HelloTests.{both_of, single_so}, JoinTests.{near_of, near_test, quiet_test, there_of, unlost_of, unlost_test, writable_so, is_addressed}, KeepsTests.{ask_keeps, ask_keeps_so, join_keeps, join_keeps_so, joiners_so, joiners_test, meet_keeps, meet_keeps_so}, LinkDr.always_more, Past.throughout_past, RouteTests.{by_route, by_route_so, routed_so}, RoutesToRp.both_always, SourceWays.{each_source_member_is_served, sent_comes_on_path}, Tested.{Found, all_together, always_so, found, lt_so, off_so, past_so, past_test, ready_by, run_test, then, together_test}, WayTests.{one_on, one_on_so}}, specs.{Carried.{IsCarried, IsPrompt, IsSentBy}, CarriedLinks.JoinKeeps, CarriedNetwork.{LanIsQuiet}, CarriedWays.pair_on, ComesOnce.{AreServedOnce, ComesOnce, IsServedOnce}, Past.{ArePast, HoldsPast}, RoutesToRp.{CanJoin, EndsAt, IsChosen, IsRouted, JoinIsOfLan, LeadsUp}, RpfJoins.IsNextHop, Settles.{Joining, routers}, SourceMemberRun.{SentComesOnce, SourceIsReached, SourceMemberIsServed, coming_down, hop_to_source, its_bound, its_first, its_join, its_lag, its_lan, its_limit, its_plan, its_routing, its_source, its_traffic, joined_up, last_before, last_config, last_on_lan, near_before, near_config, near_on_lan, nothing_came, source_moves, source_packet, source_sends, ssm_group, to_source, unserved, within}, SourceWays.{AreFreeForSource, IsBroughtOnPath, ReachesMember, ServesSourceMember, source_root_of, to_member}}}

abbrev nowhere : Station
nowhere = record { links = []; state = opening near_config }

-- ---- the LAN

last_accepted : config_test last_config ≡ Ok tt
unfolding machine_on_literals
last_accepted = refl

near_accepted : config_test near_config ≡ Ok tt
unfolding machine_on_literals
near_accepted = refl

last_ready : IsReady 0 unserved
unfolding station_at
last_ready = ready_by unserved 0 (3 ∷ 1 ∷ []) last_config last_before last_accepted refl

near_ready : IsReady 1 unserved
unfolding station_at
near_ready = ready_by unserved 1 (1 ∷ 5 ∷ []) near_config near_before near_accepted refl

sent_passes : move_test (sent_by_test within within started its_traffic) unserved source_moves ≡ true
unfolding machine_on_literals join_packet
sent_passes = refl

prompt_passes : move_test (prompt_test within within started its_traffic (λ q r. refl)) unserved source_moves ≡ true
unfolding machine_on_literals join_packet
prompt_passes = refl

lan_passes : carries_test within within started its_traffic 1 (routers (its_lan).link) nothing_came unserved source_moves ≡ true
unfolding machine_on_literals join_packet
lan_passes = refl

carried : IsCarried within within started its_traffic nothing_came 1 (routers (its_lan).link) 0 unserved source_moves
carried = record {
  timely = lit≤ tt;
  sent = each_move_so (sent_by_test within within started its_traffic) (IsSentBy started its_traffic) (sent_by_so within within started its_traffic)
      source_moves unserved sent_passes;
  prompt = each_move_so (prompt_test within within started its_traffic (λ q r. refl)) (IsPrompt within started)
      (prompt_so within within started its_traffic (λ q r. refl)) source_moves unserved prompt_passes;
  carries = carries_so within within started its_traffic 1 (routers (its_lan).link) source_moves unserved nothing_came lan_passes;
  since = λ y a. lit≤ tt;
  behind = λ y a. lit≤ tt;
}

lan_meets : meet_keeps within its_bound started 1 (routers (its_lan).link) unserved source_moves ≡ true
unfolding machine_on_literals join_packet
lan_meets = refl

lan_asks : ask_keeps within its_bound started ((its_lan).link).settings ((its_lan).link).hold 1 last_on_lan (near_on_lan ∷ []) unserved source_moves ≡ true
unfolding machine_on_literals join_packet
lan_asks = refl

lan_quiet : LanIsQuiet within within its_bound started its_traffic nothing_came unserved source_moves its_lan
lan_quiet = record {
  carried = carried;
  single = single_so (routers (its_lan).link) refl;
  meet = meet_keeps_so within its_bound started 1 (routers (its_lan).link) unserved source_moves
      (both_of (λ x. IsReady x.router unserved) last_on_lan near_on_lan last_ready near_ready) lan_meets;
  ask = ask_keeps_so within its_bound started ((its_lan).link).settings ((its_lan).link).hold 1 last_on_lan (near_on_lan ∷ []) unserved source_moves
      lan_asks;
  answers = tt;
  joins = tt;
  claims = tt;
  wishes = tt;
}

together_passes : together_test its_lag started (λ q r. refl) unserved source_moves ≡ true
unfolding machine_on_literals join_packet
together_passes = refl

-- ---- the route

abbrev joining : Joining
joining = record { join = its_join; group = ssm_group; pair = pair_on hop_to_source }

source_addressed : is_addressed within its_bound started joining ≡ true
unfolding machine_on_literals
source_addressed = refl

quiet_passes : quiet_test within its_bound started joining unserved source_moves ≡ true
unfolding machine_on_literals join_packet
quiet_passes = refl

near_passes : near_test within its_bound started joining unserved ≡ true
unfolding machine_on_literals join_packet
near_passes = refl

unlost_passes : unlost_test within its_bound started joining unserved source_moves ≡ true
unfolding machine_on_literals join_packet
unlost_passes = refl

keeps_passes : move_test (join_keeps within its_bound started its_traffic joining) unserved source_moves ≡ true
unfolding machine_on_literals join_packet
keeps_passes = refl

joiners_passes : move_test (joiners_test within its_bound started its_traffic joining (routers (its_lan).link)) unserved source_moves ≡ true
unfolding machine_on_literals join_packet
joiners_passes = refl

names_passes : run_test (by_route its_join ssm_group hop_to_source) (λ n m next ms. true) unserved source_moves ≡ true
unfolding machine_on_literals join_packet
names_passes = refl

abbrev connected_at : Network → Bool
connected_at n = option_map_or (λ (st : Station). is_connected st.state its_source) (station_at n 1) false

connected_so : (n : Network) → connected_at n ≡ true → EndsAt its_join ssm_group 1 n
connected_so n e =
    let f : Found Station (λ (st : Station). is_connected st.state its_source) (station_at n 1) =
    found Station (λ (st : Station). is_connected st.state its_source) (station_at n 1) e in
    record { station = f.it; there = f.is; top = f.passes }

connected_passes : run_test connected_at (λ n m next ms. true) unserved source_moves ≡ true
unfolding machine_on_literals join_packet
connected_passes = refl

ends : Always (EndsAt its_join ssm_group 1) unserved source_moves
ends = always_so connected_at (λ n m next ms. true) (EndsAt its_join ssm_group 1) connected_so source_moves unserved connected_passes

routed : Always (IsRouted its_join ssm_group hop_to_source) unserved source_moves
routed =
    always_more (IsNextHop its_join ssm_group (pair_on hop_to_source)) (IsRouted its_join ssm_group hop_to_source)
    (routed_so its_join ssm_group hop_to_source) source_moves unserved (there_of within its_bound started joining unserved source_moves quiet_passes)

unlost : Always (IsUnlost its_join ssm_group (pair_on hop_to_source)) unserved source_moves
unlost = unlost_of within its_bound started joining unserved source_moves unlost_passes

chosen : HoldsPast started its_bound (IsChosen its_join ssm_group hop_to_source) unserved source_moves
chosen =
    throughout_past started its_bound (IsChosen its_join ssm_group hop_to_source) source_moves unserved
    (both_always (λ n. by_route its_join ssm_group hop_to_source n ≡ true) (IsUnlost its_join ssm_group (pair_on hop_to_source))
    (IsChosen its_join ssm_group hop_to_source) (by_route_so its_join ssm_group hop_to_source) source_moves unserved
    (always_so (by_route its_join ssm_group hop_to_source) (λ n m next ms. true) (λ n. by_route its_join ssm_group hop_to_source n ≡ true) (λ n e. e)
    source_moves unserved names_passes) unlost)

same_number : (a b : ℕ) → Some a ≡ Some b → a ≡ b
same_number a b e = cc e

-- of any network and moves, so that none is computed here
module _ (n : Network) (ms : List Move) where
  top_of : Always (EndsAt its_join ssm_group 1) n ms → (r : ℕ) → to_source r ≡ Some 0 → Always (EndsAt its_join ssm_group r) n ms
  top_of f zero e = let same : 1 ≡ 0 = same_number 1 0 e in absurd (omega (arith, same))
  top_of f (suc zero) e = f
  top_of f (suc (suc r)) e = cc e

  up_of : Always (IsRouted its_join ssm_group hop_to_source) n ms → (r k : ℕ) → to_source r ≡ Some (suc k)
      → LeadsUp its_join ssm_group its_plan.lans its_routing n ms r k
  up_of f zero k e = record {
    from = refl;
    among = inl refl;
    on = record { lower = inl refl; upper = inr (inl refl); apart = refl };
    rest = 0;
    nearer = omega arith;
    distance = refl;
    routed = f;
  }
  up_of f (suc zero) k e = let same : 0 ≡ suc k = same_number 0 (suc k) e in absurd (omega (arith, same))
  up_of f (suc (suc r)) k e = cc e

joinable : IsJoin its_join ssm_group
unfolding machine_on_literals
joinable = record { multicast = refl; goes_far = refl; host = refl }

can_join : CanJoin its_join ssm_group its_traffic unserved source_moves hop_to_source
can_join = record {
  near = near_of within its_bound started joining unserved near_passes;
  keeps = each_move_so (join_keeps within its_bound started its_traffic joining) (JoinKeeps its_join ssm_group its_traffic (pair_on hop_to_source))
      (join_keeps_so within its_bound started its_traffic joining (writable_so within its_bound started joining source_addressed)) source_moves unserved
      keeps_passes;
  joiners = each_move_so (joiners_test within its_bound started its_traffic joining (routers (its_lan).link))
      (JoinIsOfLan its_join ssm_group (routers (its_lan).link) (pair_on hop_to_source))
      (joiners_so within its_bound started its_traffic joining (routers (its_lan).link)) source_moves unserved joiners_passes;
}

-- ---- the member

abbrev serves_station : Station → Bool
serves_station st =
    nat_lt 0 (iface_count st.state) && (local_receiver_include st.state ssm_group its_source 0
    && ((is_dr st.state 0 || is_winner (assert_source st.state ssm_group its_source 0)) && not (is_loser (assert_source st.state ssm_group its_source 0))))

abbrev serves_at : Network → Bool
serves_at n = option_map_or serves_station (station_at n 0) false

serves_so : (n : Network) → serves_at n ≡ true → ServesSourceMember ssm_group its_source 0 0 n
serves_so n e =
    let f : Found Station serves_station (station_at n 0) = found Station serves_station (station_at n 0) e in
    then f.passes (λ configured e. then e (λ asked e. then e (λ serves free. record {
      station = f.it;
      there = f.is;
      member = record { configured = lt_so _ _ configured; asked = asked; serves = serves; source = off_so _ free };
    })))

serves_passes : run_test serves_at (λ n m next ms. true) unserved source_moves ≡ true
unfolding machine_on_literals join_packet
serves_passes = refl

abbrev reaches_station : Station → Bool
reaches_station st =
    not (is_own st.state its_source) && (may_turn st.state ssm_group its_source 1 && (not (source_is_full st.state ssm_group its_source) && one_on 0 3 st))

abbrev reaches_at : Network → Bool
reaches_at n = option_map_or reaches_station (station_at n 0) false

reaches_so : (n : Network) → reaches_at n ≡ true → ReachesMember ssm_group its_source 3 0 hop_to_source n
reaches_so n e =
    let f : Found Station reaches_station (station_at n 0) = found Station reaches_station (station_at n 0) e in
    then f.passes (λ foreign e. then e (λ may e. then e (λ room one. record {
      takes = record { station = f.it; there = f.is; foreign = off_so _ foreign; turns = inr may; room = off_so _ room };
      below = one_on_so 0 3 f.it one;
      apart = refl;
    })))

reaches_passes : run_test reaches_at (λ n m next ms. true) unserved source_moves ≡ true
unfolding machine_on_literals join_packet may_turn
reaches_passes = refl

abbrev single_at : Network → Bool
single_at n = option_map_or (one_on 0 1) (station_at n 1) false

single_on : (n : Network) → single_at n ≡ true → AreFreeForSource ssm_group its_source hop_to_source [] n
single_on n e =
    let f : Found Station (one_on 0 1) (station_at n 1) = found Station (one_on 0 1) (station_at n 1) e in
    record { station = f.it; there = f.is; single = (one_on_so 0 1 f.it f.passes).single }

single_passes : run_test single_at (λ n m next ms. true) unserved source_moves ≡ true
unfolding machine_on_literals join_packet
single_passes = refl

pub source_is_reached : SourceIsReached
source_is_reached = (
  record {
    few = lit< tt;
    together = all_together its_lag started (λ q r. refl) unserved source_moves together_passes;
    lans = (lan_quiet, tt);
    ways = tt;
  },
  record { top = top_of unserved source_moves ends; up = up_of unserved source_moves routed },
  λ r k e. chosen,
  record { addresses = joinable; join = λ r k e. can_join },
  record {
    distance = refl;
    next_hops = refl;
    serves = throughout_past started its_first (ServesSourceMember ssm_group its_source 0 0) source_moves unserved
        (always_so serves_at (λ n m next ms. true) (ServesSourceMember ssm_group its_source 0 0) serves_so source_moves unserved serves_passes);
    later = lit≤ tt;
    by = lit≤ tt;
    reaches = throughout_past started its_limit (ReachesMember ssm_group its_source 3 0 hop_to_source) source_moves unserved
        (always_so reaches_at (λ n m next ms. true) (ReachesMember ssm_group its_source 3 0 hop_to_source) reaches_so source_moves unserved reaches_passes);
    free = throughout_past started its_limit (AreFreeForSource ssm_group its_source hop_to_source []) source_moves unserved
        (always_so single_at (λ n m next ms. true) (AreFreeForSource ssm_group its_source hop_to_source []) single_on source_moves unserved single_passes);
  },
)

pub source_member_is_served : SourceMemberIsServed
source_member_is_served =
    each_source_member_is_served ssm_group its_source within within its_lag its_bound its_first its_limit 1 started its_traffic nothing_came its_plan
    its_routing unserved source_moves 0 0 3 hop_to_source [] (source_is_reached).0 (source_is_reached).1 (source_is_reached).2 (source_is_reached).3
    (source_is_reached).4

-- ---- the packet

joined_is_past : past_test started (λ q r. refl) its_limit joined_up ≡ true
unfolding machine_on_literals join_packet
joined_is_past = refl

once : IsServedOnce ssm_group its_source within started its_traffic (source_root_of hop_to_source []) 3 (to_member 0 3 hop_to_source ∷ []) joined_up
    source_sends coming_down
once =
    (on_after its_limit (AreServedOnce ssm_group its_source within started its_traffic (source_root_of hop_to_source []) 3 (to_member 0 3 hop_to_source ∷ []))
    _ _ (source_sends ∷ coming_down) unserved (source_member_is_served).once (past_so started (λ q r. refl) its_limit joined_up joined_is_past)).0

abbrev sent_event : Event
sent_event = frame 1 source_packet

is_event : event_of joined_up source_sends ≡ Some (1, sent_event)
unfolding machine_on_literals join_packet
is_event = refl

abbrev near_then : Station
near_then = stand nowhere joined_up 1

abbrev near_after : Station
near_after = stand nowhere (moved joined_up source_sends).1 1

near_there : station_at joined_up 1 ≡ Some near_then
unfolding machine_on_literals join_packet
near_there = stands_there nowhere joined_up 1 refl

after_there : station_at (moved joined_up source_sends).1 1 ≡ Some near_after
unfolding machine_on_literals join_packet
after_there = stands_there nowhere (moved joined_up source_sends).1 1 refl

is_sent : IsSent (near_then).state sent_event ssm_group its_source 1 content 15
unfolding machine_on_literals join_packet
is_sent = record {
  bytes = source_packet;
  packet = packet_of source_packet;
  reads = refl;
  fits = lit≤ tt;
  group = refl;
  source = refl;
  is_data = refl;
  same = refl;
  time_to_live = refl;
  done = refl;
}

at_source : IsConnectedAt (near_then).state its_source 1
unfolding machine_on_literals join_packet
at_source = record { connected = refl; way = refl }

joined_there : IsSourceJoined (near_then).state ssm_group its_source 0
unfolding machine_on_literals join_packet has_row
joined_there = record { configured = lit< tt; joined = refl; source = refl }

brought : IsBroughtOnPath (near_then).state sent_event ssm_group its_source 0 content 15
brought = sent_comes_on_path (near_then).state sent_event ssm_group its_source 1 0 15 content at_source joined_there refl is_sent

its_time : time_at started 1 near_after + 1 * within ≡ 301452
unfolding machine_on_literals join_packet
its_time = refl

end_passes : past_test started (λ q r. refl) 301452 (network_ran (moved joined_up source_sends).1 coming_down).1 ≡ true
unfolding machine_on_literals join_packet
end_passes = refl

pub sent_comes_once : SentComesOnce
sent_comes_once =
    subst (λ (by : ℕ). ComesOnce ssm_group its_source 3 content 14 by its_traffic (source_root_of hop_to_source []) (to_member 0 3 hop_to_source ∷ [])
    joined_up source_sends coming_down) its_time
    ((once).served sent_event near_then near_after content 14 is_event near_there after_there (lit≤ tt) (brought).brought (brought).of_tree
    (subst (λ (by : ℕ). ArePast started by (network_ran (moved joined_up source_sends).1 coming_down).1) (sym its_time)
    (past_so started (λ q r. refl) 301452 (network_ran (moved joined_up source_sends).1 coming_down).1 end_passes)))
