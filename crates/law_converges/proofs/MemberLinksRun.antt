-- The premises, computed by their tests, and what follows.
use Rattle.std.{proofs.Common.{Bool, List, [], ap, arith, false, inl, inr, lit<, lit≤, refl, subst, suc, sym, true, zero, ℕ, ◌&&◌, ◌+◌, ◌∷◌, ◌≡◌, ◌≤◌}, specs.{Cmp.{first_so, second_so}, Option.option_map_or}}
use Rattle.pim_types.{specs.{Keys.{rpt_key, source_key, star_key}, declared.fact.Key.Key}}
use Rattle.pim_model.{specs.{Network.{Move, Network, Station, moved, station_at}, Tables.row_at}}
use Rattle.law_streams.{specs.{InTimeJoins.IsReady, Joins.join_packet}}
use Rattle.pim_runs.{proofs.OnLiterals.machine_on_literals, specs.{Base.rp, InTime.started, ServedChain.asked_group}}
use Rattle.law_converges.{proofs.{AloneOnLink.{before_each, each_move_both}, CarriedNetworkRun.{carried, farther_ready, high_quiet, low_quiet, together_passes}, CarriedTests.{carries_test, each_move_so, move_test}, HelloTests.single_so, KeepsTests.{ask_keeps, ask_keeps_so, meet_keeps, meet_keeps_so}, MemberLinks.member_is_wanted, MemberTests.{EachHeard, all_over, hears_none_better, inside_so, inside_test, members_so, members_test, none_better, sourceless_at, sourceless_so, takes_at, takes_so, unasked_at, unasked_so}, QueryTests.{member_so, member_test}, Tested.{Found, all_together, found, happens_not, not_so, then}, WayTests.{early, isnt_past, past_run, past_run_so}}, specs.{AloneOnLink.{ComesDownTheWay, LostGroup, NoHosts, OthersSendNone, SendsNone}, Carried.EachMove, CarriedNetwork.LanIsQuiet, CarriedNetworkRun.{before, bound, claim, far_source, farther_on_high, farther_on_low, high_lan, lag, low_lan, moves, nearer_on_high, nearer_on_low, none_came, rp_on_high, soon, traffic}, CarriedWaysRun.its_hop, LinkDr.{IsOne, Member, between, is_preferred}, LinkRpt.is_pruned_by, MemberLinks.{AsDr, AsWinner, ServesMember, NoneBetter, Winner}, MemberLinksRun.{BothAreWanted, NoOthersSend, ServedPlanIsQuiet, farther_on_own, other_hop, own_lan, served_plan}, Past.ArePast, Settles.routers, Unheard.{HearsNoPrune, HearsNoBetter, is_gone}}}

-- ---- the second router's own link

own_passes : carries_test soon soon started traffic 4 (routers (own_lan).link) none_came before moves ≡ true
unfolding machine_on_literals join_packet
own_passes = refl

own_meets : meet_keeps soon bound started 4 (routers (own_lan).link) before moves ≡ true
unfolding machine_on_literals join_packet
own_meets = refl

own_asks : ask_keeps soon bound started ((own_lan).link).settings ((own_lan).link).hold 4 farther_on_own [] before moves ≡ true
unfolding machine_on_literals join_packet
own_asks = refl

own_answers : member_test soon bound started ((own_lan).link).settings (between 4 farther_on_own farther_on_own) ((own_lan).link).hold asked_group before moves ≡ true
unfolding machine_on_literals join_packet
own_answers = refl

own_ready : (x : Member) → IsOne (routers (own_lan).link) x → IsReady x.router before
own_ready x (inl same) = subst (λ (x : Member). IsReady x.router before) same farther_ready
own_ready x (inr none) = absurd none

own_single : (x y : Member) → IsOne (routers (own_lan).link) x → IsOne (routers (own_lan).link) y → x.router ≡ y.router → x ≡ y
own_single = single_so (routers (own_lan).link) refl

own_quiet : LanIsQuiet soon soon bound started traffic none_came before moves own_lan
own_quiet = record {
  carried = carried 4 (routers (own_lan).link) own_passes;
  single = own_single;
  meet = meet_keeps_so soon bound started 4 (routers (own_lan).link) before moves own_ready own_meets;
  ask = ask_keeps_so soon bound started ((own_lan).link).settings ((own_lan).link).hold 4 farther_on_own [] before moves own_asks;
  answers = (
    (
      (member_so soon bound started ((own_lan).link).settings (between 4 farther_on_own farther_on_own) ((own_lan).link).hold asked_group before moves
          farther_ready farther_ready own_answers).in_time,
      tt,
    ),
    tt,
  );
  joins = tt;
  claims = tt;
  wishes = tt;
}

pub served_plan_is_quiet : ServedPlanIsQuiet
served_plan_is_quiet = record {
  few = lit< tt;
  together = all_together lag started (λ q r. refl) before moves together_passes;
  lans = (low_quiet, (high_quiet, (own_quiet, tt)));
  ways = tt;
}

-- ---- both are wanted

not_to_itself : is_preferred farther_on_own farther_on_own ≡ false
unfolding machine_on_literals
not_to_itself = refl

own_first : (y : Member) → IsOne (routers (own_lan).link) y → is_preferred y farther_on_own ≡ false
own_first y (inl same) = subst (λ (z : Member). is_preferred z farther_on_own ≡ false) same not_to_itself
own_first y (inr none) = absurd none

pub low_serves : ServesMember asked_group served_plan.lans low_lan nearer_on_low
low_serves = record { among = inl refl; member = inl refl; serves = AsWinner claim farther_on_low (inl refl) refl refl refl (inl refl) }

pub own_serves : ServesMember asked_group served_plan.lans own_lan farther_on_own
own_serves = record { among = inr (inr (inl refl)); member = inl refl; serves = AsDr (inl refl) own_first }

-- no better Assert of the group comes to the routers, nor one of the source, and nobody prunes the source
abbrev pub keys_of : ℕ → List Key
keys_of zero = star_key 0 asked_group ∷ star_key 1 asked_group ∷ source_key 0 asked_group far_source ∷ []
keys_of (suc zero) = star_key 1 asked_group ∷ star_key 2 asked_group ∷ source_key 2 asked_group far_source ∷ []
keys_of (suc (suc r)) = star_key 0 asked_group ∷ source_key 0 asked_group far_source ∷ []

abbrev none_to : ℕ → Network → Move → Bool
none_to r n m = none_better r (keys_of r) n m

abbrev none_prunes : Network → Move → Bool
none_prunes n m = happens_not 2 (λ s a. is_pruned_by 0 asked_group far_source a) n m

abbrev none_to_rp : Network → Move → Bool
none_to_rp n m = none_to 2 n m && none_prunes n m

abbrev none_higher : Network → Move → Bool
none_higher n m = none_to 1 n m && none_to_rp n m

abbrev is_unbeaten : Network → Move → Network → Bool
is_unbeaten n m next = none_to 0 n m && none_higher n m

unbeaten_passes : move_test is_unbeaten before moves ≡ true
unfolding machine_on_literals join_packet
unbeaten_passes = refl

abbrev are_over : Network → Bool
are_over n =
    all_over 0 (keys_of 0) n && (all_over 1 (keys_of 1) n && (all_over 2 (keys_of 2) n
    && option_map_or (λ (st : Station). is_gone 0 (row_at (st.state).downstream (rpt_key 0 asked_group far_source))) (station_at n 2) false))

over_passes : are_over before ≡ true
unfolding machine_on_literals join_packet
over_passes = refl

pub record AreUnbeaten (n : Network) (ms : List Move) : Type 0 where
  pub nearer : EachHeard 0 (keys_of 0) n ms
  pub farther : EachHeard 1 (keys_of 1) n ms
  pub at_rp : EachHeard 2 (keys_of 2) n ms
  pub pruned : HearsNoPrune asked_group far_source bound started rp_on_high n ms

-- of any network and moves, so that none is computed here
unbeaten_of : (n : Network) (ms : List Move) → are_over n ≡ true → move_test is_unbeaten n ms ≡ true → AreUnbeaten n ms
unbeaten_of n ms first moves =
    then first (λ nearer e. then e (λ farther e. then e (λ at_rp gone. record {
      nearer = record { over = nearer; moves = each_move_so is_unbeaten _ (λ n m e. first_so (none_to 0 n m) (none_higher n m) e) ms n moves };
      farther = record {
        over = farther;
        moves = each_move_so is_unbeaten _ (λ n m e. first_so (none_to 1 n m) (none_to_rp n m) (higher n m e)) ms n moves;
      };
      at_rp = record { over = at_rp; moves = each_move_so is_unbeaten _ (λ n m e. first_so (none_to 2 n m) (none_prunes n m) (to_rp n m e)) ms n moves };
      pruned =
          let f : Found Station _ (station_at n 2) = found Station _ (station_at n 2) gone in record {
            none = each_move_so is_unbeaten _ (λ n m e. not_so 2 (λ s a. is_pruned_by 0 asked_group far_source a) n m
                (second_so (none_to 2 n m) (none_prunes n m) (to_rp n m e))) ms n moves;
            station = f.it;
            there = f.is;
            until = 0;
            over = f.passes;
            by = at_least (started 2 + 0) bound;
          };
    })))
  where
    higher : (n : Network) (m : Move) → is_unbeaten n m (moved n m).1 ≡ true → none_higher n m ≡ true
    higher n m e = second_so (none_to 0 n m) (none_higher n m) e

    to_rp : (n : Network) (m : Move) → is_unbeaten n m (moved n m).1 ≡ true → none_to_rp n m ≡ true
    to_rp n m e = second_so (none_to 1 n m) (none_to_rp n m) (higher n m e)

    at_least : (i j : ℕ) → 0 ≤ j
    at_least i j = omega arith

pub are_unbeaten : AreUnbeaten before moves
are_unbeaten = unbeaten_of before moves over_passes unbeaten_passes

pub own_unbeaten : HearsNoBetter (star_key 2 asked_group) bound started 1 before moves
own_unbeaten = hears_none_better bound started 1 (keys_of 1) before moves (are_unbeaten).farther (star_key 2 asked_group) (inr (inl refl)) (lit≤ tt)

pub both_are_wanted : BothAreWanted
both_are_wanted = (
  member_is_wanted asked_group rp soon soon lag bound started traffic none_came served_plan before moves low_lan nearer_on_low
      served_plan_is_quiet low_serves (Winner claim farther_on_low (inl refl) refl refl refl (inl refl)),
  member_is_wanted asked_group rp soon soon lag bound started traffic none_came served_plan before moves own_lan farther_on_own
      served_plan_is_quiet own_serves (NoneBetter own_unbeaten),
)

-- ---- nobody else sends there

low_whole : members_test 1 (routers (low_lan).link) before ≡ true
unfolding machine_on_literals join_packet
low_whole = refl

high_whole : members_test 2 (routers (high_lan).link) before ≡ true
unfolding machine_on_literals join_packet
high_whole = refl

own_whole : members_test 4 (routers (own_lan).link) before ≡ true
unfolding machine_on_literals join_packet
own_whole = refl

-- past the bound
abbrev silent_at : Network → Bool
silent_at n =
    sourceless_at asked_group far_source farther_on_low n
    && (unasked_at asked_group far_source nearer_on_high n
    && (unasked_at asked_group far_source farther_on_high n
    && (takes_at asked_group far_source nearer_on_high n && takes_at asked_group far_source farther_on_high n)))

silent_passes : past_run started bound 2 silent_at before moves ≡ true
unfolding machine_on_literals join_packet
silent_passes = refl

nearer_inside : move_test (inside_test asked_group far_source 0) before moves ≡ true
unfolding machine_on_literals join_packet
nearer_inside = refl

farther_inside : move_test (inside_test asked_group far_source 1) before moves ≡ true
unfolding machine_on_literals join_packet
farther_inside = refl

abbrev IsSilentAt : Network → Type 0
IsSilentAt n = silent_at n ≡ true

on_low : (n : Network) (m : Move) → sourceless_at asked_group far_source farther_on_low n ≡ true
    → OthersSendNone asked_group far_source low_lan 0 n m
on_low n m e y (inl same) = inl (ap (λ (z : Member). z.router) (sym same))
on_low n m e y (inr (inl same)) =
    inr (subst (λ (z : Member). SendsNone asked_group far_source low_lan z n m) same
    (let f = sourceless_so asked_group far_source farther_on_low n e in
    LostGroup (record {
      claim = claim;
      among = inl refl;
      loser = inl refl;
      group = refl;
      star = refl;
      station = f.station;
      there = f.there;
      joined = f.joined;
      asked = f.asked;
    })))
on_low n m e y (inr (inr none)) = absurd none

on_both : (n : Network) (m : Move) → unasked_at asked_group far_source nearer_on_high n ≡ true
    → unasked_at asked_group far_source farther_on_high n ≡ true → OthersSendNone asked_group far_source high_lan 2 n m
on_both n m e f y (inl same) =
    inr (subst (λ (z : Member). SendsNone asked_group far_source high_lan z n m) same
    (let u = unasked_so asked_group far_source nearer_on_high n e in NoHosts u.0 u.1))
on_both n m e f y (inr (inl same)) =
    inr (subst (λ (z : Member). SendsNone asked_group far_source high_lan z n m) same
    (let u = unasked_so asked_group far_source farther_on_high n f in NoHosts u.0 u.1))
on_both n m e f y (inr (inr (inl same))) = inl (ap (λ (z : Member). z.router) (sym same))
on_both n m e f y (inr (inr (inr none))) = absurd none

on_own : (n : Network) (m : Move) → OthersSendNone asked_group far_source own_lan 1 n m
on_own n m y (inl same) = inl (ap (λ (z : Member). z.router) (sym same))
on_own n m y (inr none) = absurd none

abbrev IsInside : ℕ → Network → Move → Type 0
IsInside r n m = inside_test asked_group far_source r n m (moved n m).1 ≡ true

record AreSilent (n : Network) : Type 0 where
  low : sourceless_at asked_group far_source farther_on_low n ≡ true
  nearer : unasked_at asked_group far_source nearer_on_high n ≡ true
  farther : unasked_at asked_group far_source farther_on_high n ≡ true
  nearer_takes : takes_at asked_group far_source nearer_on_high n ≡ true
  farther_takes : takes_at asked_group far_source farther_on_high n ≡ true

silent_so : (n : Network) → IsSilentAt n → AreSilent n
silent_so n e =
    then e (λ low e. then e (λ nearer e. then e (λ farther e. then e (λ first second. record {
      low = low;
      nearer = nearer;
      farther = farther;
      nearer_takes = first;
      farther_takes = second;
    }))))

low_comes : (n : Network) (m : Move) → AreSilent n → IsInside 0 n m → ComesDownTheWay asked_group far_source low_lan nearer_on_low its_hop [] n m
low_comes n m f inside = record {
  on_link = on_low n m f.low;
  on_way = on_both n m f.nearer f.farther;
  from_above = (
    record {
      takes = takes_so asked_group far_source nearer_on_high n f.nearer_takes;
      none_inside = λ x st p is at brought group source.
          inside_so asked_group far_source 0 n m (moved n m).1 inside x st p is at brought group source;
    },
    tt,
  );
}

own_comes : (n : Network) (m : Move) → AreSilent n → IsInside 1 n m
    → ComesDownTheWay asked_group far_source own_lan farther_on_own other_hop [] n m
own_comes n m f inside = record {
  on_link = on_own n m;
  on_way = on_both n m f.nearer f.farther;
  from_above = (
    record {
      takes = takes_so asked_group far_source farther_on_high n f.farther_takes;
      none_inside = λ x st p is at brought group source.
          inside_so asked_group far_source 1 n m (moved n m).1 inside x st p is at brought group source;
    },
    tt,
  );
}

begins_early : early started bound 2 before ≡ true
unfolding machine_on_literals join_packet
begins_early = refl

silent_each : EachMove (λ n m. ArePast started bound n → IsSilentAt n) before moves
silent_each =
    before_each started bound IsSilentAt moves before (λ past. absurd (isnt_past started bound 2 before begins_early past))
    (past_run_so started bound 2 silent_at IsSilentAt (λ n e. e) moves before silent_passes)

inside_each : (r : ℕ) → move_test (inside_test asked_group far_source r) before moves ≡ true → EachMove (IsInside r) before moves
inside_each r e = each_move_so (inside_test asked_group far_source r) (IsInside r) (λ n m e. e) moves before e

pub no_others_send : NoOthersSend
no_others_send = (
  (
    members_so 1 (routers (low_lan).link) before low_whole,
    (members_so 2 (routers (high_lan).link) before high_whole, (members_so 4 (routers (own_lan).link) before own_whole, tt)),
  ),
  each_move_both (λ n m. ArePast started bound n → IsSilentAt n) (IsInside 0)
      (λ n m. ArePast started bound n → ComesDownTheWay asked_group far_source low_lan nearer_on_low its_hop [] n m)
      (λ n m f g past. low_comes n m (silent_so n (f past)) g) moves before silent_each (inside_each 0 nearer_inside),
  each_move_both (λ n m. ArePast started bound n → IsSilentAt n) (IsInside 1)
      (λ n m. ArePast started bound n → ComesDownTheWay asked_group far_source own_lan farther_on_own other_hop [] n m)
      (λ n m f g past. own_comes n m (silent_so n (f past)) g) moves before silent_each (inside_each 1 farther_inside),
)
