-- The premises, computed by their tests, and what follows.
use Rattle.std.{proofs.Common.{Bool, List, Ok, [], arith, false, inl, inr, lit<, lit≤, refl, subst, suc, true, zero, ℕ, ◌&&◌, ◌+◌, ◌∷◌, ◌≡◌, ◌≤◌, Some}, specs.{Cmp.{first_so, second_so}, Option.option_map_or}}
use Rattle.pim_types.{specs.{Keys.{rpt_key, source_key, star_key}, declared.fact.{AssertMetric.AssertMetric, Key.Key}}}
use Rattle.pim_model.{specs.{Limits.config_test, Network.{Move, Network, Station, moved, station_at}, Sets.metric_of, Tables.row_at}}
use Rattle.law_streams.{specs.{Adjacent.Adjacent, InTimeJoins.{Always, IsJoin, IsReady}, Joins.join_packet}}
use Rattle.pim_runs.{proofs.OnLiterals.machine_on_literals, specs.{Base.rp, InTime.started, ServedChain.asked_group}}
use Rattle.law_converges.{proofs.{CarriedTests.{carries_so, carries_test, each_move_so, move_test, prompt_so, prompt_test, sent_by_so, sent_by_test}, ClaimTests.{due_so, due_test, yields_by, yields_test}, EachMember.each_member_is_served, HelloTests.{both_of, single_so}, JoinTests.{is_addressed, near_of, near_test, quiet_test, there_of, writable_so}, KeepsTests.{ask_keeps, ask_keeps_so, join_keeps, join_keeps_so, joiners_so, joiners_test, meet_keeps, meet_keeps_so}, LinkDr.always_more, LoserJoins.loser_joins_winner, MemberTests.{EachHeard, all_over, hears_none_better, included_at, included_so, members_so, members_test, none_better, tree_at, tree_so}, QueryTests.{member_so, member_test}, RouteTests.{ends_at, ends_so, routed_so}, Tested.{Found, all_together, always_so, found, happens_not, not_so, ready_by, run_test, then, together_test}, WayTests.{past_run, past_run_so}}, specs.{Carried.{IsCarried, IsPrompt, IsSentBy}, CarriedLinks.JoinKeeps, CarriedNetwork.LanIsQuiet, CarriedNetworkRun.{bound, far_source, lag, limit, nearer_on_high, nearer_on_low, none_came, rp_config, rp_high, soon, star}, CarriedWays.pair_on, EachMember.{EachComesOver, GivesWay, HopIsFree, IsIncluded, TakesOnTree}, LinkAsserts.IsSayable, LinkDr.{IsOne, Member, between, is_preferred}, LinkLosers.{needs_no_clearing, passes_throughout, survives, survives_instant, survives_timer}, LinkRpt.is_pruned_by, MemberLinks.{AsDr, NoneBetter, ServesMember}, RoutesToRp.{AllCanJoin, CanJoin, EndsAt, IsRouted, JoinIsOfLan, LeadsUp, RoutesLead}, RpfJoins.IsNextHop, Settles.{Joining, routers}, Unheard.{HearsNoPrune, is_gone}, WinnerHopRun.{FirstYields, HostIsReached, HostIsServed, TwoLansAreQuiet, WinnerIsRpf, above_before, at_first, below_before, below_config, host_lan, joining_over, one_hop, their_traffic, to_winner, two_lans, winner, winner_hop, winner_lan}}}

-- ---- ready

below_accepted : config_test below_config ≡ Ok tt
unfolding machine_on_literals
below_accepted = refl

above_accepted : config_test rp_config ≡ Ok tt
unfolding machine_on_literals
above_accepted = refl

below_ready : IsReady 0 at_first
unfolding station_at
below_ready = ready_by at_first 0 (1 ∷ 2 ∷ []) below_config below_before below_accepted refl

above_ready : IsReady 1 at_first
unfolding station_at
above_ready = ready_by at_first 1 (2 ∷ []) rp_config above_before above_accepted refl

host_ready : (x : Member) → IsOne (routers (host_lan).link) x → IsReady x.router at_first
host_ready x (inl same) = subst (λ (x : Member). IsReady x.router at_first) same below_ready
host_ready x (inr none) = absurd none

winner_ready : (x : Member) → IsOne (routers (winner_lan).link) x → IsReady x.router at_first
winner_ready = both_of (λ x. IsReady x.router at_first) nearer_on_high winner below_ready above_ready

-- ---- the links

sent_passes : move_test (sent_by_test soon soon started their_traffic) at_first joining_over ≡ true
unfolding machine_on_literals join_packet
sent_passes = refl

prompt_passes : move_test (prompt_test soon soon started their_traffic (λ q r. refl)) at_first joining_over ≡ true
unfolding machine_on_literals join_packet
prompt_passes = refl

host_carries : carries_test soon soon started their_traffic 1 (routers (host_lan).link) none_came at_first joining_over ≡ true
unfolding machine_on_literals join_packet
host_carries = refl

winner_carries : carries_test soon soon started their_traffic 2 (routers (winner_lan).link) none_came at_first joining_over ≡ true
unfolding machine_on_literals join_packet
winner_carries = refl

carried : (link : ℕ) (members : List Member) → carries_test soon soon started their_traffic link members none_came at_first joining_over ≡ true
    → IsCarried soon soon started their_traffic none_came link members 0 at_first joining_over
carried link members e = record {
  timely = lit≤ tt;
  sent = each_move_so (sent_by_test soon soon started their_traffic) (IsSentBy started their_traffic) (sent_by_so soon soon started their_traffic)
      joining_over at_first sent_passes;
  prompt = each_move_so (prompt_test soon soon started their_traffic (λ q r. refl)) (IsPrompt soon started)
      (prompt_so soon soon started their_traffic (λ q r. refl)) joining_over at_first prompt_passes;
  carries = carries_so soon soon started their_traffic link members joining_over at_first none_came e;
  since = λ y a. lit≤ tt;
  behind = λ y a. lit≤ tt;
}

host_meets : meet_keeps soon bound started 1 (routers (host_lan).link) at_first joining_over ≡ true
unfolding machine_on_literals join_packet
host_meets = refl

host_asks : ask_keeps soon bound started ((host_lan).link).settings ((host_lan).link).hold 1 nearer_on_low [] at_first joining_over ≡ true
unfolding machine_on_literals join_packet
host_asks = refl

host_answers : member_test soon bound started ((host_lan).link).settings (between 1 nearer_on_low nearer_on_low) ((host_lan).link).hold asked_group at_first joining_over ≡ true
unfolding machine_on_literals join_packet
host_answers = refl

host_single : (x y : Member) → IsOne (routers (host_lan).link) x → IsOne (routers (host_lan).link) y → x.router ≡ y.router → x ≡ y
host_single = single_so (routers (host_lan).link) refl

winner_single : (x y : Member) → IsOne (routers (winner_lan).link) x → IsOne (routers (winner_lan).link) y → x.router ≡ y.router → x ≡ y
winner_single = single_so (routers (winner_lan).link) refl

host_quiet : LanIsQuiet soon soon bound started their_traffic none_came at_first joining_over host_lan
host_quiet = record {
  carried = carried 1 (routers (host_lan).link) host_carries;
  single = host_single;
  meet = meet_keeps_so soon bound started 1 (routers (host_lan).link) at_first joining_over host_ready host_meets;
  ask = ask_keeps_so soon bound started ((host_lan).link).settings ((host_lan).link).hold 1 nearer_on_low [] at_first joining_over host_asks;
  answers = (
    (
      (member_so soon bound started ((host_lan).link).settings (between 1 nearer_on_low nearer_on_low) ((host_lan).link).hold asked_group at_first
          joining_over below_ready below_ready host_answers).in_time,
      tt,
    ),
    tt,
  );
  joins = tt;
  claims = tt;
  wishes = tt;
}

winner_meets : meet_keeps soon bound started 2 (routers (winner_lan).link) at_first joining_over ≡ true
unfolding machine_on_literals join_packet
winner_meets = refl

winner_asks : ask_keeps soon bound started ((winner_lan).link).settings ((winner_lan).link).hold 2 nearer_on_high (winner ∷ []) at_first joining_over ≡ true
unfolding machine_on_literals join_packet
winner_asks = refl

winner_quiet : LanIsQuiet soon soon bound started their_traffic none_came at_first joining_over winner_lan
winner_quiet = record {
  carried = carried 2 (routers (winner_lan).link) winner_carries;
  single = winner_single;
  meet = meet_keeps_so soon bound started 2 (routers (winner_lan).link) at_first joining_over winner_ready winner_meets;
  ask = ask_keeps_so soon bound started ((winner_lan).link).settings ((winner_lan).link).hold 2 nearer_on_high (winner ∷ []) at_first joining_over
      winner_asks;
  answers = tt;
  joins = tt;
  claims = tt;
  wishes = tt;
}

together_passes : together_test lag started (λ q r. refl) at_first joining_over ≡ true
unfolding machine_on_literals join_packet
together_passes = refl

pub two_lans_are_quiet : TwoLansAreQuiet
two_lans_are_quiet = record {
  few = lit< tt;
  together = all_together lag started (λ q r. refl) at_first joining_over together_passes;
  lans = (host_quiet, (winner_quiet, tt));
  ways = tt;
}

-- ---- the winner

abbrev its_metric : AssertMetric
its_metric = metric_of true 0 0 rp_high

abbrev wins_there : Adjacent
wins_there = between 2 winner nearer_on_high

yields_passes : yields_test soon bound started asked_group 0 its_metric wins_there at_first joining_over ≡ true
unfolding machine_on_literals join_packet survives survives_instant survives_timer needs_no_clearing passes_throughout
yields_passes = refl

is_due : due_test soon bound started asked_group 0 its_metric wins_there at_first ≡ true
unfolding machine_on_literals join_packet
is_due = refl

sayable : IsSayable rp_high asked_group 0 its_metric
unfolding machine_on_literals
sayable = record { from_host = refl; of_group = refl; goes_far = refl; of_source = lit< tt; preference_fits = lit< tt; metric_fits = lit< tt }

pub first_yields : FirstYields
first_yields = record {
  few = lit< tt;
  metric = its_metric;
  yields = yields_by soon bound started asked_group 0 its_metric wins_there at_first joining_over sayable refl yields_passes;
  by = due_so soon bound started asked_group 0 its_metric wins_there at_first is_due;
}

-- ---- the way

abbrev over_winner : Joining
over_winner = record { join = star; group = asked_group; pair = pair_on winner_hop }

its_group : IsJoin star asked_group
unfolding machine_on_literals
its_group = record { multicast = refl; goes_far = refl; rp_host = refl }

addressed : is_addressed soon bound started over_winner ≡ true
unfolding machine_on_literals
addressed = refl

quiet_passes : quiet_test soon bound started over_winner at_first joining_over ≡ true
unfolding machine_on_literals join_packet
quiet_passes = refl

keeps_pass : move_test (join_keeps soon bound started their_traffic over_winner) at_first joining_over ≡ true
unfolding machine_on_literals join_packet
keeps_pass = refl

joiners_pass : move_test (joiners_test soon bound started their_traffic over_winner (routers (winner_lan).link)) at_first joining_over ≡ true
unfolding machine_on_literals join_packet
joiners_pass = refl

near_passes : near_test soon bound started over_winner at_first ≡ true
unfolding machine_on_literals join_packet
near_passes = refl

ends_pass : run_test (ends_at rp 1) (λ n m next ms. true) at_first joining_over ≡ true
unfolding machine_on_literals join_packet
ends_pass = refl

routed : Always (IsRouted star asked_group winner_hop) at_first joining_over
routed =
    always_more (IsNextHop star asked_group (pair_on winner_hop)) (IsRouted star asked_group winner_hop) (routed_so star asked_group winner_hop)
    joining_over at_first (there_of soon bound started over_winner at_first joining_over quiet_passes)

can_join : CanJoin star asked_group their_traffic at_first joining_over winner_hop
can_join = record {
  near = near_of soon bound started over_winner at_first near_passes;
  keeps = each_move_so (join_keeps soon bound started their_traffic over_winner) (JoinKeeps star asked_group their_traffic (pair_on winner_hop))
      (join_keeps_so soon bound started their_traffic over_winner (writable_so soon bound started over_winner addressed)) joining_over at_first
      keeps_pass;
  joiners = each_move_so (joiners_test soon bound started their_traffic over_winner (routers (winner_lan).link))
      (JoinIsOfLan star asked_group (routers (winner_lan).link) (pair_on winner_hop))
      (joiners_so soon bound started their_traffic over_winner (routers (winner_lan).link)) joining_over at_first joiners_pass;
}

same_number : (a b : ℕ) → Some a ≡ Some b → a ≡ b
same_number a b e = cc e

-- of any network and moves, so that none is computed here
module _ (n : Network) (ms : List Move) where
  top_of : Always (EndsAt star asked_group 1) n ms → (r : ℕ) → one_hop r ≡ Some 0 → Always (EndsAt star asked_group r) n ms
  top_of f zero e = let same : 1 ≡ 0 = same_number 1 0 e in absurd (omega (arith, same))
  top_of f (suc zero) e = f
  top_of f (suc (suc r)) e = cc e

  up_of : Always (IsRouted star asked_group winner_hop) n ms → (r k : ℕ) → one_hop r ≡ Some (suc k)
      → LeadsUp star asked_group two_lans.lans to_winner n ms r k
  up_of f zero k e = record {
    from = refl;
    among = inr (inl refl);
    on = record { lower = inl refl; upper = inr (inl refl); apart = refl };
    rest = 0;
    nearer = omega arith;
    distance = refl;
    routed = f;
  }
  up_of f (suc zero) k e = let same : 0 ≡ suc k = same_number 0 (suc k) e in absurd (omega (arith, same))
  up_of f (suc (suc r)) k e = cc e

lead : RoutesLead star asked_group two_lans.lans to_winner at_first joining_over
lead = record {
  top = top_of at_first joining_over
      (always_so (ends_at rp 1) (λ n m next ms. true) (EndsAt star asked_group 1) (ends_so rp asked_group 1) joining_over at_first ends_pass);
  up = up_of at_first joining_over routed;
}

pub winner_is_rpf : WinnerIsRpf
unfolding machine_on_literals join_packet
winner_is_rpf = (
  (loser_joins_winner star asked_group soon soon bound started their_traffic none_came at_first joining_over winner_hop its_group (record {
    carried = (winner_quiet).carried;
    ready = ((winner_quiet).meet).ready;
    stand = ((winner_quiet).meet).stand;
    hear = ((winner_quiet).meet).hear;
    greet = ((winner_quiet).meet).greet;
  }) (record { lower = inl refl; upper = inr (inl refl); apart = refl }) first_yields).rpf routed,
  refl,
)

comes_over : EachComesOver rp asked_group soon bound started to_winner at_first joining_over
comes_over r k e = GivesWay first_yields

can_join_each : AllCanJoin star asked_group their_traffic to_winner at_first joining_over
can_join_each = record { addresses = its_group; join = λ r k e. can_join }

-- ---- nothing keeps the packets from the host

not_to_itself : is_preferred nearer_on_low nearer_on_low ≡ false
unfolding machine_on_literals
not_to_itself = refl

host_first : (y : Member) → IsOne (routers (host_lan).link) y → is_preferred y nearer_on_low ≡ false
host_first y (inl same) = subst (λ (z : Member). is_preferred z nearer_on_low ≡ false) same not_to_itself
host_first y (inr none) = absurd none

host_serves : ServesMember asked_group two_lans.lans host_lan nearer_on_low
host_serves = record { among = inl refl; member = inl refl; serves = AsDr (inl refl) host_first }

-- no better Assert comes there, nor to the winner one of the source, and nobody prunes the source
abbrev keys_of : ℕ → List Key
keys_of zero = star_key 0 asked_group ∷ source_key 0 asked_group far_source ∷ []
keys_of (suc r) = source_key 0 asked_group far_source ∷ []

abbrev none_prunes : Network → Move → Bool
none_prunes n m = happens_not 1 (λ s a. is_pruned_by 0 asked_group far_source a) n m

abbrev none_above : Network → Move → Bool
none_above n m = none_better 1 (keys_of 1) n m && none_prunes n m

abbrev is_unbeaten : Network → Move → Network → Bool
is_unbeaten n m next = none_better 0 (keys_of 0) n m && none_above n m

unbeaten_passes : move_test is_unbeaten at_first joining_over ≡ true
unfolding machine_on_literals join_packet
unbeaten_passes = refl

abbrev are_over : Network → Bool
are_over n =
    all_over 0 (keys_of 0) n && (all_over 1 (keys_of 1) n
    && option_map_or (λ (st : Station). is_gone 0 (row_at (st.state).downstream (rpt_key 0 asked_group far_source))) (station_at n 1) false)

over_passes : are_over at_first ≡ true
unfolding machine_on_literals join_packet
over_passes = refl

record AreUnbeaten (n : Network) (ms : List Move) : Type 0 where
  below : EachHeard 0 (keys_of 0) n ms
  above : EachHeard 1 (keys_of 1) n ms
  pruned : HearsNoPrune asked_group far_source bound started winner n ms

-- of any network and moves, so that none is computed here
unbeaten_of : (n : Network) (ms : List Move) → are_over n ≡ true → move_test is_unbeaten n ms ≡ true → AreUnbeaten n ms
unbeaten_of n ms first moves =
    then first (λ low e. then e (λ high gone. record {
      below = record { over = low; moves = each_move_so is_unbeaten _ (λ n m e. first_so (none_better 0 (keys_of 0) n m) (none_above n m) e) ms n moves };
      above = record {
        over = high;
        moves = each_move_so is_unbeaten _ (λ n m e. first_so (none_better 1 (keys_of 1) n m) (none_prunes n m) (at_rp n m e)) ms n moves;
      };
      pruned =
          let f : Found Station _ (station_at n 1) = found Station _ (station_at n 1) gone in record {
            none = each_move_so is_unbeaten _ (λ n m e. not_so 1 (λ s a. is_pruned_by 0 asked_group far_source a) n m
                (second_so (none_better 1 (keys_of 1) n m) (none_prunes n m) (at_rp n m e))) ms n moves;
            station = f.it;
            there = f.is;
            until = 0;
            over = f.passes;
            by = at_least (started 1 + 0) bound;
          };
    }))
  where
    at_rp : (n : Network) (m : Move) → is_unbeaten n m (moved n m).1 ≡ true → none_above n m ≡ true
    at_rp n m e = second_so (none_better 0 (keys_of 0) n m) (none_above n m) e

    at_least : (i j : ℕ) → 0 ≤ j
    at_least i j = omega arith

unbeaten : AreUnbeaten at_first joining_over
unbeaten = unbeaten_of at_first joining_over over_passes unbeaten_passes

-- past the limit
abbrev takes_there : Network → Bool
takes_there n = tree_at asked_group far_source nearer_on_high n

abbrev serves_there : Network → Bool
serves_there n = included_at asked_group far_source nearer_on_low n

abbrev is_open : Network → Bool
is_open n = takes_there n && serves_there n

open_passes : past_run started limit 1 is_open at_first joining_over ≡ true
unfolding machine_on_literals join_packet
open_passes = refl

hop_free : HopIsFree asked_group far_source bound limit started at_first joining_over winner_hop
hop_free = record {
  takes = past_run_so started limit 1 is_open (TakesOnTree asked_group far_source nearer_on_high)
      (λ n e. tree_so asked_group far_source nearer_on_high n (first_so (takes_there n) (serves_there n) e)) joining_over at_first open_passes;
  unlost = hears_none_better bound started 1 (keys_of 1) at_first joining_over (unbeaten).above (source_key 0 asked_group far_source) (inl refl) (lit≤ tt);
  unpruned = (unbeaten).pruned;
}

pub host_is_reached : HostIsReached
host_is_reached = (
  lead,
  comes_over,
  can_join_each,
  record {
    serves = host_serves;
    distance = refl;
    next_hops = refl;
    apart = (refl, tt);
    by = lit≤ tt;
    unbeaten = NoneBetter
        (hears_none_better bound started 0 (keys_of 0) at_first joining_over (unbeaten).below (star_key 0 asked_group) (inl refl) (lit≤ tt));
    unlost = hears_none_better bound started 0 (keys_of 0) at_first joining_over (unbeaten).below (source_key 0 asked_group far_source) (inr (inl refl))
        (lit≤ tt);
    included = past_run_so started limit 1 is_open (IsIncluded asked_group far_source nearer_on_low)
        (λ n e. included_so asked_group far_source nearer_on_low n (second_so (takes_there n) (serves_there n) e)) joining_over at_first open_passes;
    free = (hop_free, tt);
  },
)

-- ---- so it is served

host_whole : members_test 1 (routers (host_lan).link) at_first ≡ true
unfolding machine_on_literals join_packet
host_whole = refl

winner_whole : members_test 2 (routers (winner_lan).link) at_first ≡ true
unfolding machine_on_literals join_packet
winner_whole = refl

pub host_is_served : HostIsServed
host_is_served =
    each_member_is_served asked_group far_source rp soon soon lag bound limit 1 started their_traffic none_came two_lans to_winner at_first joining_over
    host_lan nearer_on_low winner_hop [] two_lans_are_quiet
    (members_so 1 (routers (host_lan).link) at_first host_whole, (members_so 2 (routers (winner_lan).link) at_first winner_whole, tt)) lead comes_over
    can_join_each (host_is_reached).3
