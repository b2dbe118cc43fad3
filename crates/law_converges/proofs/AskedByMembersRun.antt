-- The premises, computed by their tests.
use Rattle.std.{proofs.Common.{Bool, List, Ok, Option, Some, [], arith, cond, false, length, lit≤, refl, subst, suc, true, zero, ℕ, ◌+◌, ◌-◌, ◌<◌, ◌==◌, ◌∷◌, ◌≡◌, ◌≤◌}, proofs.lemmas.Bool.false≢true}
use Rattle.pim_types.{specs.declared.{config.Config.Config, event.Event.Event}}
use Rattle.pim_model.{specs.{Cause.{has_cause}, Limits.config_test, Network.{Station, frame_at, station_at}, State.{opening}}}
use Rattle.law_streams.{specs.Joins.join_packet}
use Rattle.pim_runs.{specs.{InTime.started, ServedChain.{asked_group, first, packet_living, second, sender, station, third, third_meets}}, proofs.OnLiterals.machine_on_literals}
use Rattle.law_converges.{proofs.{AskedByMembers.{each_way_is_short, links_come_to_lead_to_hosts}, AskedTests.{all_over, leads_so, leads_test, over_after, sent_so, sent_test}, CarriedTests.{each_move_so, move_test}, Tested.{past_so, past_test}}, specs.{AskedByMembers.{IsLed, IsNew, IsOverBy, JoinsAreSent, JoinsLeadUp}, AskedByMembersRun.{LineIsAsked, LineLeadsToHost, PairComesToLeadToHost, PairIsAsked, PlanComesToLeadToHosts, PlanIsAsked, at_once, line_at_end, line_distance, line_moves, line_traffic, minutes, new_line, pair, pair_at_end, pair_bound, pair_distance, pair_low, pair_then, pair_traffic, plan_distance, plan_limit, plan_tick, second_long}, Carried.EachMove, CarriedNetworkRun.{before, far_source, farther_before, farther_config, moves, nearer_before, nearer_config, rp_before, rp_config, soon, traffic}, LeftLinksRun.wanted_for}}

some_station : {a b : Station} → (let o : Option Station = Some a in o) ≡ Some b → a ≡ b
some_station e = cc e

-- a router with its links, after events
is_led : (links : List ℕ) (c : Config) (events : List Event) → config_test c ≡ Ok tt → length links ≡ length c.interfaces
    → IsLed events (station links c events)
is_led links c events accepted linked = record { config = c; accepted = accepted; led = refl; linked = linked }

-- ---- the line

first_accepted : config_test first ≡ Ok tt
unfolding machine_on_literals
first_accepted = refl

second_accepted : config_test second ≡ Ok tt
unfolding machine_on_literals
second_accepted = refl

third_accepted : config_test third ≡ Ok tt
unfolding machine_on_literals
third_accepted = refl

line_is_new : IsNew new_line
unfolding station_at
line_is_new = record { opened = opened; silent = refl }
  where
    opened : (r : ℕ) (st : Station) → station_at new_line r ≡ Some st → IsLed [] st
    opened zero st e = subst (IsLed []) (some_station e) (is_led (3 ∷ 1 ∷ []) first [] first_accepted refl)
    opened (suc zero) st e = subst (IsLed []) (some_station e) (is_led (1 ∷ 2 ∷ []) second [] second_accepted refl)
    opened (suc (suc zero)) st e = subst (IsLed []) (some_station e) (is_led (2 ∷ []) third [] third_accepted refl)
    opened (suc (suc (suc r))) st e = cc e

line_sent : move_test (sent_test wanted_for at_once second_long 0 started line_traffic) new_line line_moves ≡ true
unfolding machine_on_literals
line_sent = refl

line_leads : move_test (leads_test asked_group sender line_distance line_traffic) new_line line_moves ≡ true
unfolding machine_on_literals
line_leads = refl

on_top : frame_at line_at_end 13 ≡ Some (record { link = Some 2; bytes = packet_living 3 })
unfolding machine_on_literals
on_top = refl

between : frame_at line_at_end 14 ≡ Some (record { link = Some 1; bytes = packet_living 2 })
unfolding machine_on_literals
between = refl

at_host : frame_at line_at_end 15 ≡ Some (record { link = Some 3; bytes = packet_living 1 })
unfolding machine_on_literals
at_host = refl

line_joins : EachMove (JoinsAreSent wanted_for at_once second_long 0 started line_traffic) new_line line_moves
line_joins =
    each_move_so (sent_test wanted_for at_once second_long 0 started line_traffic) (JoinsAreSent wanted_for at_once second_long 0 started line_traffic)
    (sent_so wanted_for at_once second_long 0 started line_traffic) line_moves new_line line_sent

line_up : EachMove (JoinsLeadUp asked_group sender line_distance line_traffic) new_line line_moves
line_up =
    each_move_so (leads_test asked_group sender line_distance line_traffic) (JoinsLeadUp asked_group sender line_distance line_traffic)
    (leads_so asked_group sender line_distance line_traffic) line_moves new_line line_leads

pub line_is_asked : LineIsAsked
line_is_asked = (line_is_new, line_joins, line_up, on_top, between, at_host)

pub line_leads_to_host : LineLeadsToHost
line_leads_to_host =
    each_way_is_short asked_group sender wanted_for at_once second_long 2 0 line_distance started line_traffic new_line line_moves refl line_is_new
    line_joins line_up (λ r. no_farther r) (λ r. lit≤ tt)
  where
    no_farther : (r : ℕ) → 2 - r ≤ 2
    no_farther r = omega arith

-- ---- after events

none_asked : (limit i src now : ℕ) → has_cause [] now i asked_group src ≡ true → now + 0 < limit
unfolding has_cause
none_asked limit i src now e = absurd (false≢true e)

over_by : (limit r : ℕ) (links : List ℕ) (c : Config) (events : List Event) → config_test c ≡ Ok tt → length links ≡ length c.interfaces
    → all_over asked_group limit started r (opening c) events ≡ true → IsOverBy asked_group limit started r (station links c events)
unfolding is_led
over_by limit r links c events accepted linked over = record {
  events = events;
  led = is_led links c events accepted linked;
  over = over_after asked_group limit started r events [] (opening c) over (none_asked limit);
}

-- ---- eleven minutes

low_over : all_over asked_group 0 started 0 (opening second) pair_low ≡ true
unfolding machine_on_literals
low_over = refl

high_over : all_over asked_group 0 started 1 (opening third) third_meets ≡ true
unfolding machine_on_literals
high_over = refl

pair_over : (r : ℕ) (st : Station) → station_at pair r ≡ Some st → IsOverBy asked_group 0 started r st
unfolding station_at
pair_over zero st e =
    subst (IsOverBy asked_group 0 started 0) (some_station e) (over_by 0 0 (1 ∷ 2 ∷ []) second pair_low second_accepted refl low_over)
pair_over (suc zero) st e =
    subst (IsOverBy asked_group 0 started 1) (some_station e) (over_by 0 1 (2 ∷ []) third third_meets third_accepted refl high_over)
pair_over (suc (suc r)) st e = cc e

pair_sent : move_test (sent_test wanted_for at_once 60000 (length pair.frames) started pair_traffic) pair minutes ≡ true
unfolding machine_on_literals
pair_sent = refl

pair_leads : move_test (leads_test asked_group sender pair_distance pair_traffic) pair minutes ≡ true
unfolding machine_on_literals
pair_leads = refl

pair_late : past_test started (λ q r. refl) pair_bound pair_then ≡ true
unfolding machine_on_literals
pair_late = refl

pair_on_top : frame_at pair_at_end 98 ≡ Some (record { link = Some 2; bytes = packet_living 3 })
unfolding machine_on_literals
pair_on_top = refl

pair_at_host : frame_at pair_at_end 99 ≡ Some (record { link = Some 1; bytes = packet_living 2 })
unfolding machine_on_literals
pair_at_host = refl

pair_joins : EachMove (JoinsAreSent wanted_for at_once 60000 (length pair.frames) started pair_traffic) pair minutes
pair_joins =
    each_move_so (sent_test wanted_for at_once 60000 (length pair.frames) started pair_traffic)
    (JoinsAreSent wanted_for at_once 60000 (length pair.frames) started pair_traffic)
    (sent_so wanted_for at_once 60000 (length pair.frames) started pair_traffic) minutes pair pair_sent

pair_up : EachMove (JoinsLeadUp asked_group sender pair_distance pair_traffic) pair minutes
pair_up =
    each_move_so (leads_test asked_group sender pair_distance pair_traffic) (JoinsLeadUp asked_group sender pair_distance pair_traffic)
    (leads_so asked_group sender pair_distance pair_traffic) minutes pair pair_leads

pub pair_is_asked : PairIsAsked
pair_is_asked = (pair_over, pair_joins, pair_up, past_so started (λ q r. refl) pair_bound pair_then pair_late, pair_on_top, pair_at_host)

pub pair_comes_to_lead_to_host : PairComesToLeadToHost
pair_comes_to_lead_to_host =
    links_come_to_lead_to_hosts asked_group sender wanted_for at_once 60000 0 1 0 pair_distance started pair_traffic pair minutes refl pair_over
    pair_joins pair_up (λ r. no_farther r) (λ r. lit≤ tt)
  where
    no_farther : (r : ℕ) → 1 - r ≤ 1
    no_farther r = omega arith

-- ---- the two LANs

nearer_accepted : config_test nearer_config ≡ Ok tt
unfolding machine_on_literals
nearer_accepted = refl

farther_accepted : config_test farther_config ≡ Ok tt
unfolding machine_on_literals
farther_accepted = refl

rp_accepted : config_test rp_config ≡ Ok tt
unfolding machine_on_literals
rp_accepted = refl

nearer_over : all_over asked_group plan_limit started 0 (opening nearer_config) nearer_before ≡ true
unfolding machine_on_literals join_packet
nearer_over = refl

farther_over : all_over asked_group plan_limit started 1 (opening farther_config) farther_before ≡ true
unfolding machine_on_literals join_packet
farther_over = refl

rp_over : all_over asked_group plan_limit started 2 (opening rp_config) rp_before ≡ true
unfolding machine_on_literals join_packet
rp_over = refl

plan_over : (r : ℕ) (st : Station) → station_at before r ≡ Some st → IsOverBy asked_group plan_limit started r st
unfolding station_at
plan_over zero st e =
    subst (IsOverBy asked_group plan_limit started 0) (some_station e)
    (over_by plan_limit 0 (1 ∷ 2 ∷ []) nearer_config nearer_before nearer_accepted refl nearer_over)
plan_over (suc zero) st e =
    subst (IsOverBy asked_group plan_limit started 1) (some_station e)
    (over_by plan_limit 1 (1 ∷ 2 ∷ 4 ∷ 5 ∷ []) farther_config farther_before farther_accepted refl farther_over)
plan_over (suc (suc zero)) st e =
    subst (IsOverBy asked_group plan_limit started 2) (some_station e) (over_by plan_limit 2 (2 ∷ []) rp_config rp_before rp_accepted refl rp_over)
plan_over (suc (suc (suc r))) st e = cc e

plan_sent : move_test (sent_test wanted_for soon plan_tick (length before.frames) started traffic) before moves ≡ true
unfolding machine_on_literals join_packet
plan_sent = refl

plan_leads : move_test (leads_test asked_group far_source plan_distance traffic) before moves ≡ true
unfolding machine_on_literals join_packet
plan_leads = refl

plan_joins : EachMove (JoinsAreSent wanted_for soon plan_tick (length before.frames) started traffic) before moves
plan_joins =
    each_move_so (sent_test wanted_for soon plan_tick (length before.frames) started traffic)
    (JoinsAreSent wanted_for soon plan_tick (length before.frames) started traffic)
    (sent_so wanted_for soon plan_tick (length before.frames) started traffic) moves before plan_sent

plan_up : EachMove (JoinsLeadUp asked_group far_source plan_distance traffic) before moves
plan_up =
    each_move_so (leads_test asked_group far_source plan_distance traffic) (JoinsLeadUp asked_group far_source plan_distance traffic)
    (leads_so asked_group far_source plan_distance traffic) moves before plan_leads

pub plan_is_asked : PlanIsAsked
plan_is_asked = (plan_over, plan_joins, plan_up)

pub plan_comes_to_lead_to_hosts : PlanComesToLeadToHosts
plan_comes_to_lead_to_hosts =
    links_come_to_lead_to_hosts asked_group far_source wanted_for soon plan_tick plan_limit 1 0 plan_distance started traffic before moves refl
    plan_over plan_joins plan_up (λ r. a_hop_away (r == 2)) (λ r. lit≤ tt)
  where
    a_hop_away : (b : Bool) → cond b 0 1 ≤ 1
    a_hop_away true = lit≤ tt
    a_hop_away false = lit≤ tt
