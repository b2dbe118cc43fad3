-- The premises, computed by their tests.
use Rattle.std.{proofs.{Common.{◌≡◌, ℕ, zero, suc, ◌≤◌, ◌==◌, List, [], ◌∷◌, Bool, true, false, Ok, inl, inr, refl, subst, arith, lit≤, lit<}}}
use Rattle.pim_model.{specs.{Limits.config_test, Network.{Station, network_ran, station_at}, State.{opening}}}
use Rattle.law_streams.{specs.{InTimeJoins.{IsJoin, IsReady}, Joins.join_packet}, proofs.Computed.{stand, stands_there}}
use Rattle.pim_runs.{specs.{InTime.started, ServedChain.asked_group}, proofs.OnLiterals.machine_on_literals}
use Rattle.law_converges.{specs.{Carried.{IsCarried, IsPrompt, IsSentBy}, CarriedLinks.{HearsJoins, JoinKeeps}, CarriedNetwork.{ClaimIsQuiet, JoinIsQuiet, JoinOver, LanIsQuiet, WayIsQuiet, WishIsQuiet, joining_on, layout_of}, CarriedNetworkRun.{OverrideComesInOrder, PlanIsQuiet, PlanSettles, PruneHasNoEffect, before, bound, claim, farther_before, farther_config, farther_joins, farther_on_high, farther_on_low, high_lan, its_metric, its_wire, its_wish, lag, low_lan, moves, nearer_before, nearer_config, nearer_joins, nearer_on_high, nearer_on_low, none_came, plan, rp_before, rp_config, rp_on_high, soon, star, traffic, way}, LinkAsserts.IsSayable, LinkDr.{IsOne, Member, between}, LinkLosers.{needs_no_clearing, passes_throughout, survives, survives_instant, survives_timer}, LinkMembers.AnswersInTime, LinkRptOrder.{Begins, IsOverridable}, Settles.{HasSettled, Joining, routers}}, proofs.{CarriedNetwork.carried_network_settles, CarriedPrunes.prunes_in_order, CarriedTests.{carries_so, carries_test, each_move_so, move_test, prompt_so, prompt_test, sent_by_so, sent_by_test}, ClaimTests.{claim_test, due_so, due_test, off_tree, yields_so}, HelloTests.{both_of, single_so}, JoinTests.{due_of, first_due, first_test, first_wants, is_addressed, near_of, near_test, quiet_test, there_of, unlost_of, unlost_test, wants_of, writable_so}, KeepsTests.{ask_keeps, ask_keeps_so, join_keeps, join_hears_so, join_keeps_so, meet_keeps, meet_keeps_so}, LinkRptOrder.overridden_prune_has_no_effect, QueryTests.{member_so, member_test}, Tested.{all_together, ends_past, past_so, past_test, ready_by, together_test}, WishTests.{all_known, all_kept, wants_state, wants_state_so, wish_test}}}

abbrev pub nowhere : Station
nowhere = record { links = []; state = opening rp_config }

-- ---- ready

nearer_accepted : config_test nearer_config ≡ Ok tt
unfolding machine_on_literals
nearer_accepted = refl

farther_accepted : config_test farther_config ≡ Ok tt
unfolding machine_on_literals
farther_accepted = refl

rp_accepted : config_test rp_config ≡ Ok tt
unfolding machine_on_literals
rp_accepted = refl

pub nearer_ready : IsReady 0 before
unfolding station_at
nearer_ready = ready_by before 0 (1 ∷ 2 ∷ []) nearer_config nearer_before nearer_accepted refl

pub farther_ready : IsReady 1 before
unfolding station_at
farther_ready = ready_by before 1 (1 ∷ 2 ∷ 4 ∷ 5 ∷ []) farther_config farther_before farther_accepted refl

rp_ready : IsReady 2 before
unfolding station_at
rp_ready = ready_by before 2 (2 ∷ []) rp_config rp_before rp_accepted refl

low_ready : (x : Member) → IsOne (routers (low_lan).link) x → IsReady x.router before
low_ready = both_of (λ x. IsReady x.router before) nearer_on_low farther_on_low nearer_ready farther_ready

high_ready : (x : Member) → IsOne (routers (high_lan).link) x → IsReady x.router before
high_ready x (inl same) = subst (λ (x : Member). IsReady x.router before) same nearer_ready
high_ready x (inr (inl same)) = subst (λ (x : Member). IsReady x.router before) same farther_ready
high_ready x (inr (inr (inl same))) = subst (λ (x : Member). IsReady x.router before) same rp_ready
high_ready x (inr (inr (inr none))) = absurd none

-- ---- what the links carry

sent_passes : move_test (sent_by_test soon soon started traffic) before moves ≡ true
unfolding machine_on_literals join_packet
sent_passes = refl

prompt_passes : move_test (prompt_test soon soon started traffic (λ q r. refl)) before moves ≡ true
unfolding machine_on_literals join_packet
prompt_passes = refl

low_passes : carries_test soon soon started traffic 1 (routers (low_lan).link) none_came before moves ≡ true
unfolding machine_on_literals join_packet
low_passes = refl

high_passes : carries_test soon soon started traffic 2 (routers (high_lan).link) none_came before moves ≡ true
unfolding machine_on_literals join_packet
high_passes = refl

pub carried : (link : ℕ) (members : List Member) → carries_test soon soon started traffic link members none_came before moves ≡ true
    → IsCarried soon soon started traffic none_came link members 0 before moves
carried link members e = record {
  timely = lit≤ tt;
  sent = each_move_so (sent_by_test soon soon started traffic) (IsSentBy started traffic) (sent_by_so soon soon started traffic) moves before sent_passes;
  prompt = each_move_so (prompt_test soon soon started traffic (λ q r. refl)) (IsPrompt soon started)
      (prompt_so soon soon started traffic (λ q r. refl)) moves before prompt_passes;
  carries = carries_so soon soon started traffic link members moves before none_came e;
  since = λ y a. lit≤ tt;
  behind = λ y a. lit≤ tt;
}

-- ---- the first LAN

low_meets : meet_keeps soon bound started 1 (routers (low_lan).link) before moves ≡ true
unfolding machine_on_literals join_packet
low_meets = refl

low_asks : ask_keeps soon bound started ((low_lan).link).settings ((low_lan).link).hold 1 nearer_on_low (farther_on_low ∷ []) before moves ≡ true
unfolding machine_on_literals join_packet
low_asks = refl

abbrev answers_test : Member → Bool
answers_test y =
    member_test soon bound started ((low_lan).link).settings (between 1 nearer_on_low y) ((low_lan).link).hold asked_group before moves

nearer_answers : answers_test nearer_on_low ≡ true
unfolding machine_on_literals join_packet
nearer_answers = refl

farther_answers : answers_test farther_on_low ≡ true
unfolding machine_on_literals join_packet
farther_answers = refl

answers_so : (y : Member) → IsReady y.router before → answers_test y ≡ true
    → AnswersInTime ((low_lan).link).settings ((low_lan).link).hold soon started asked_group (between 1 nearer_on_low y) before moves
answers_so y ready e =
    (member_so soon bound started ((low_lan).link).settings (between 1 nearer_on_low y) ((low_lan).link).hold asked_group before moves
    nearer_ready ready e).in_time

claim_passes : claim_test soon bound started asked_group 0 its_metric (between 1 nearer_on_low farther_on_low) before moves ≡ true
unfolding machine_on_literals join_packet survives survives_instant survives_timer needs_no_clearing passes_throughout
claim_passes = refl

claim_is_due : due_test soon bound started asked_group 0 its_metric (between 1 nearer_on_low farther_on_low) before ≡ true
unfolding machine_on_literals join_packet
claim_is_due = refl

sayable : IsSayable (nearer_on_low).address asked_group 0 its_metric
unfolding machine_on_literals
sayable = record { from_host = refl; of_group = refl; goes_far = refl; of_source = lit< tt; preference_fits = lit< tt; metric_fits = lit< tt }

claim_quiet : ClaimIsQuiet soon bound started before moves low_lan claim
claim_quiet = record {
  few = lit< tt;
  losers = (
    record {
      on = record { lower = inl refl; upper = inr (inl refl); apart = refl };
      yields = yields_so soon bound started asked_group 0 its_metric (between 1 nearer_on_low farther_on_low) before moves sayable refl claim_passes;
      by = due_so soon bound started asked_group 0 its_metric (between 1 nearer_on_low farther_on_low) before claim_is_due;
      off = off_tree soon bound started asked_group 0 its_metric (between 1 nearer_on_low farther_on_low) before moves claim_passes;
    },
    tt,
  );
}

single_low : (x y : Member) → IsOne (routers (low_lan).link) x → IsOne (routers (low_lan).link) y → x.router ≡ y.router → x ≡ y
single_low = single_so (routers (low_lan).link) refl

single_high : (x y : Member) → IsOne (routers (high_lan).link) x → IsOne (routers (high_lan).link) y → x.router ≡ y.router → x ≡ y
single_high = single_so (routers (high_lan).link) refl

pub low_quiet : LanIsQuiet soon soon bound started traffic none_came before moves low_lan
low_quiet = record {
  carried = carried 1 (routers (low_lan).link) low_passes;
  single = single_low;
  meet = meet_keeps_so soon bound started 1 (routers (low_lan).link) before moves low_ready low_meets;
  ask = ask_keeps_so soon bound started ((low_lan).link).settings ((low_lan).link).hold 1 nearer_on_low (farther_on_low ∷ []) before moves low_asks;
  answers = ((answers_so nearer_on_low nearer_ready nearer_answers, (answers_so farther_on_low farther_ready farther_answers, tt)), tt);
  joins = tt;
  claims = (claim_quiet, tt);
  wishes = tt;
}

-- ---- the second LAN

high_meets : meet_keeps soon bound started 2 (routers (high_lan).link) before moves ≡ true
unfolding machine_on_literals join_packet
high_meets = refl

high_asks : ask_keeps soon bound started ((high_lan).link).settings ((high_lan).link).hold 2 nearer_on_high (farther_on_high ∷ rp_on_high ∷ []) before moves ≡ true
unfolding machine_on_literals join_packet
high_asks = refl

pub rp_joined : IsJoin star asked_group
unfolding machine_on_literals
rp_joined = record { multicast = refl; goes_far = refl; rp_host = refl }

abbrev pub on_high : JoinOver → Joining
on_high j = joining_on high_lan j

nearer_addressed : is_addressed soon bound started (on_high nearer_joins) ≡ true
unfolding machine_on_literals
nearer_addressed = refl

farther_addressed : is_addressed soon bound started (on_high farther_joins) ≡ true
unfolding machine_on_literals
farther_addressed = refl

nearer_quiet : quiet_test soon bound started (on_high nearer_joins) before moves ≡ true
unfolding machine_on_literals join_packet
nearer_quiet = refl

farther_quiet : quiet_test soon bound started (on_high farther_joins) before moves ≡ true
unfolding machine_on_literals join_packet
farther_quiet = refl

nearer_keeps : move_test (join_keeps soon bound started traffic (on_high nearer_joins)) before moves ≡ true
unfolding machine_on_literals join_packet
nearer_keeps = refl

farther_keeps : move_test (join_keeps soon bound started traffic (on_high farther_joins)) before moves ≡ true
unfolding machine_on_literals join_packet
farther_keeps = refl

join_quiet : (j : JoinOver) → IsOne (routers (high_lan).link) j.lower → IsOne (routers (high_lan).link) j.upper
    → ((j.lower).router == (j.upper).router) ≡ false → IsJoin j.join j.group → is_addressed soon bound started (on_high j) ≡ true
    → quiet_test soon bound started (on_high j) before moves ≡ true → move_test (join_keeps soon bound started traffic (on_high j)) before moves ≡ true
    → JoinIsQuiet soon bound started traffic before moves high_lan j
join_quiet j lower upper apart addresses addressed quiet keeps =
    let due = due_of soon bound started (on_high j) before moves quiet in record {
      addresses = addresses;
      on = record { lower = lower; upper = upper; apart = apart };
      there = there_of soon bound started (on_high j) before moves quiet;
      keeps = each_move_so (join_keeps soon bound started traffic (on_high j)) (JoinKeeps j.join j.group traffic (on_high j).pair)
          (join_keeps_so soon bound started traffic (on_high j) (writable_so soon bound started (on_high j) addressed)) moves before keeps;
      hears = each_move_so (join_keeps soon bound started traffic (on_high j)) (HearsJoins j.join j.group (on_high j).pair)
          (join_hears_so soon bound started traffic (on_high j) (writable_so soon bound started (on_high j) addressed)) moves before keeps;
      wants = wants_of soon bound started (on_high j) before moves quiet;
      station = due.station;
      is = due.is;
      row = due.row;
      timer = due.timer;
      by = due.by;
    }

-- the Prune that is overridden
wish_passes : wish_test traffic 2 its_wish its_wire before moves ≡ true
unfolding machine_on_literals join_packet passes_throughout
wish_passes = refl

overridable : IsOverridable its_wire
unfolding machine_on_literals
overridable = record { of_group = refl; goes_far = refl; general = refl; of_host = refl; to_fits = lit< tt }

none_first : (k : ℕ) → k ≤ 0 → (k == 13) ≡ false
none_first zero le = refl
none_first (suc k) le = absurd (omega (arith, le))

wants_first : wants_state traffic 2 its_wish its_wire (stand nowhere before 0).state ≡ true
unfolding machine_on_literals join_packet
wants_first = refl

begins : Begins its_wire before
unfolding machine_on_literals join_packet
begins = record {
  apart = refl;
  above = stand nowhere before 2;
  above_is = stands_there nowhere before 2 refl;
  no_info = refl;
  below = stand nowhere before 0;
  below_is = stands_there nowhere before 0 refl;
  wants = wants_state_so traffic 2 its_wish its_wire (stand nowhere before 0).state wants_first;
  ready = rp_ready;
  none = none_first;
}

wish_quiet : WishIsQuiet soon soon started traffic before moves high_lan its_wish
wish_quiet = record {
  addresses = overridable;
  on = record { lower = inl refl; upper = inr (inr (inl refl)); apart = refl };
  soon = lit< tt;
  some = lit≤ tt;
  begins = begins;
  known = all_known traffic 2 its_wish its_wire before moves wish_passes;
  keeps = all_kept traffic 2 its_wish its_wire before moves wish_passes;
}

pub high_quiet : LanIsQuiet soon soon bound started traffic none_came before moves high_lan
high_quiet = record {
  carried = carried 2 (routers (high_lan).link) high_passes;
  single = single_high;
  meet = meet_keeps_so soon bound started 2 (routers (high_lan).link) before moves high_ready high_meets;
  ask = ask_keeps_so soon bound started ((high_lan).link).settings ((high_lan).link).hold 2 nearer_on_high (farther_on_high ∷ rp_on_high ∷ []) before
      moves high_asks;
  answers = tt;
  joins = (
    join_quiet nearer_joins (inl refl) (inr (inr (inl refl))) refl rp_joined nearer_addressed nearer_quiet nearer_keeps,
    (join_quiet farther_joins (inr (inl refl)) (inr (inr (inl refl))) refl rp_joined farther_addressed farther_quiet farther_keeps, tt),
  );
  claims = tt;
  wishes = (wish_quiet, tt);
}

-- ---- the way

first_passes : first_test soon bound started (on_high nearer_joins) before moves ≡ true
unfolding machine_on_literals join_packet
first_passes = refl

near_passes : near_test soon bound started (on_high nearer_joins) before ≡ true
unfolding machine_on_literals join_packet
near_passes = refl

unlost_passes : unlost_test soon bound started (on_high nearer_joins) before moves ≡ true
unfolding machine_on_literals join_packet
unlost_passes = refl

pub together_passes : together_test lag started (λ q r. refl) before moves ≡ true
unfolding machine_on_literals join_packet
together_passes = refl

nearer_joins_quiet : JoinIsQuiet soon bound started traffic before moves high_lan nearer_joins
nearer_joins_quiet = (high_quiet).joins.0

pub way_quiet : WayIsQuiet soon lag bound started traffic (low_lan ∷ high_lan ∷ []) before moves way
way_quiet = record {
  addresses = rp_joined;
  hops = (
    refl,
    record {
      among = inr (inl refl);
      on = (nearer_joins_quiet).on;
      near = near_of soon bound started (on_high nearer_joins) before near_passes;
      there = (nearer_joins_quiet).there;
      keeps = (nearer_joins_quiet).keeps;
      hears = (nearer_joins_quiet).hears;
      unlost = unlost_of soon bound started (on_high nearer_joins) before moves unlost_passes;
    },
    tt,
  );
  wants = first_wants soon bound started (on_high nearer_joins) before moves first_passes;
  begin = bound;
  due = first_due soon bound started (on_high nearer_joins) before moves first_passes;
  by = lit≤ tt;
}

-- ---- all together

pub plan_is_quiet : PlanIsQuiet
plan_is_quiet = record {
  few = lit< tt;
  together = all_together lag started (λ q r. refl) before moves together_passes;
  lans = (low_quiet, (high_quiet, tt));
  ways = (way_quiet, tt);
}

end_is_past : past_test started (λ q r. refl) bound (network_ran before moves).1 ≡ true
unfolding machine_on_literals join_packet
end_is_past = refl

pub plan_settles : PlanSettles
plan_settles =
    ends_past started bound (HasSettled (layout_of soon soon started traffic plan)) _ _ before
    (carried_network_settles soon soon lag bound started traffic none_came plan before moves plan_is_quiet)
    (past_so started (λ q r. refl) bound (network_ran before moves).1 end_is_past)

-- ---- the Prune that is overridden

pub override_comes_in_order : OverrideComesInOrder
unfolding machine_on_literals join_packet
override_comes_in_order = (
  prunes_in_order soon soon started traffic none_came 2 (routers (high_lan).link) its_wish (inl refl) (inr (inr (inl refl))) refl before moves
      (high_quiet).carried (wish_quiet).known (wish_quiet).keeps,
  refl,
  refl,
)

pub prune_has_no_effect : PruneHasNoEffect
prune_has_no_effect =
    overridden_prune_has_no_effect its_wire before moves overridable (lit< tt) (lit≤ tt) begins (override_comes_in_order).0
