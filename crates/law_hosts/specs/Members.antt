-- A member that answers each general query in time keeps the record of its group, over reloads too (RFC 3376, 8.2 to 8.4).
use Rattle.std.{specs.{List.list_any, Prelude.{Bool, List, None, Option, Some, [], false, if◌then◌else◌, length, nat_le, nat_lt, not, option_and_then, true, ℕ, ◌&&◌, ◌*◌, ◌+◌, ◌-◌, ◌==◌, ◌||◌, ◌∷◌, ◌≡◌}}}
use Rattle.pim_types.{specs.declared.{config.{Config.Config, Settings.Settings}, event.Event.Event, fact.QuerierRow.QuerierRow}}
use Rattle.igmp_wire.{specs.{Values.Record, declared.report.RecordType.RecordType}}
use Rattle.pim_model.{specs.{declared.accepted.Accepted.Accepted, Cause.done_as, Querier.{is_excluding, is_lower_querier, is_skipped, querier_on}, Receivers.local_receiver_star, State.{State, settings_of}, Step.step, Timers.next_query}}
use Rattle.law_streams.{specs.Copies.happens}
use Rattle.law_states.{specs.History.{AreAccepted, Given, IsLedTo, state_given}}

-- ---- intervals, in ms

-- [Query Response Interval] (8.3)
abbrev pub response_interval : Settings → ℕ
response_interval t = 100 * t.query_response_interval

-- [Group Membership Interval] (8.4) less [Query Interval] (8.2). After a report the next general query leaves within
-- [Query Interval], so that the record of the group outlasts it by so much at least.
abbrev pub margin : Settings → ℕ
margin t = (t.robustness - 1) * (1000 * t.query_interval) + response_interval t

-- An answer that comes within [Query Response Interval] and a delivery time d of its query comes before a record is over
-- that outlasts the query by so much.
abbrev pub answers_before : ℕ → Settings → ℕ → Bool
answers_before d t lasts = nat_lt (response_interval t + d) lasts

-- ---- queries and answers

-- When the next general query leaves on the interface, if the router is its querier.
unfoldable pub next_general : State → ℕ → Option ℕ
next_general s i = option_and_then (λ (q : QuerierRow). next_query q.role) (querier_on s i)

-- what the record of a group waits for
pub data Waiting : Type 0 where
  -- for the next general query, which it outlasts by so many ms
  ForQuery : ℕ → Waiting
  -- for an answer to the first general query since the last report, until a timestamp
  ForAnswer : ℕ → Waiting

-- a general query that is due by a moment leaves, and is to be answered
abbrev pub asked_by : ℕ → Settings → ℕ → ℕ → Option ℕ → Waiting
asked_by d t moment lasts None = ForQuery lasts
asked_by d t moment lasts (Some next) =
    if nat_le next moment then ForAnswer (next + (response_interval t + d)) else ForQuery lasts

abbrev pub after_time : ℕ → ℕ → State → ℕ → Waiting → Waiting
after_time d i s moment (ForQuery lasts) = asked_by d s.settings moment lasts (next_general s i)
after_time d i s moment (ForAnswer due) = ForAnswer due

-- A record that answers for the group: an IS_EX or TO_EX of it that isn't skipped.
abbrev pub answers : ℕ → Record → Bool
answers g r = not (is_skipped r) && ((r.group == g) && is_excluding r.type)

abbrev pub is_leaving : RecordType → Bool
is_leaving RecordType.ToInclude = true
is_leaving type = false

-- a record that leaves the group: a TO_IN of it, which has the querier ask whether another member is there
abbrev pub leaves : ℕ → Record → Bool
leaves g r = (r.group == g) && is_leaving r.type

-- what is waited for after an event that the router took
unfoldable pub waiting_after : (d i g : ℕ) → Waiting → State → Option Accepted → Waiting
waiting_after d i g x s (Some (Accepted.Advance moment)) = after_time d i s moment x
waiting_after d i g x s (Some (Accepted.Report j records)) =
    if (j.number == i) && list_any (answers g) records then ForQuery (margin s.settings) else x
waiting_after d i g x s o = x

-- ---- what may happen meanwhile

abbrev pub in_time : ℕ → Waiting → Bool
in_time moment (ForQuery lasts) = true
in_time moment (ForAnswer due) = nat_le moment due

-- An event that the router takes, and that isn't one of these: time that passes what is waited for; the interface going
-- down or up; there a query of a lower querier, or one of the group with S clear; and there a report that leaves the group.
unfoldable pub may_happen : (d i g : ℕ) → Waiting → State → Option Accepted → Bool
may_happen d i g x s (Some (Accepted.Advance moment)) = in_time moment (after_time d i s moment x)
may_happen d i g x s (Some (Accepted.Up j)) = not (j.number == i)
may_happen d i g x s (Some (Accepted.Down j)) = not (j.number == i)
may_happen d i g x s (Some (Accepted.Query j from q)) =
    not ((j.number == i) && (is_lower_querier s i from.bits || ((q.group == g) && not q.suppress)))
may_happen d i g x s (Some (Accepted.Report j records)) = not ((j.number == i) && list_any (leaves g) records)
may_happen d i g x s o = true

-- An answer by these settings comes before the record is over.
abbrev pub answers_still : ℕ → Settings → Waiting → Bool
answers_still d t (ForQuery lasts) = answers_before d t lasts
answers_still d t (ForAnswer due) = true

-- A reload that keeps the interface, and under which each answer comes before the record is over: that of before, and one
-- that was reported under it.
abbrev pub may_reload : (d i : ℕ) → Waiting → Config → Bool
may_reload d i x c =
    nat_lt i (length c.interfaces)
    && (answers_before d (settings_of c) (margin (settings_of c)) && answers_still d (settings_of c) x)

-- None of these is a reload by a map of places, by which the interface may get another number.
unfoldable pub may_be_given : (d i g : ℕ) → Waiting → State → Given → Bool
may_be_given d i g x s (Given.Happening e) = may_happen d i g x s (done_as (happens s e))
may_be_given d i g x s (Given.Reload c w) = may_reload d i x c
may_be_given d i g x s (Given.Placed m c w) = false
may_be_given d i g x s (Given.Kept h src m) = true

unfoldable pub waiting_given : (d i g : ℕ) → Waiting → State → Given → Waiting
waiting_given d i g x s (Given.Happening e) = waiting_after d i g x s (done_as (happens s e))
waiting_given d i g x s y = x

-- Each general query is answered in time, and nothing else of the above happens.
unfoldable pub is_answered : (d i g : ℕ) → Waiting → State → List Given → Bool
is_answered d i g x s [] = true
is_answered d i g x s (y ∷ ys) =
    may_be_given d i g x s y && is_answered d i g (waiting_given d i g x s y) (state_given s (y ∷ [])) ys

-- ---- the law

-- The router is the querier of the interface, and takes a report there that answers for the group and doesn't leave it;
-- by its settings each answer comes before the record is over, which is so where the delivery time is less than
-- [Query Interval], since [Robustness Variable] is 2 at least.
pub record IsReported (d i g : ℕ) (s : State) (e : Event) : Type 0 where
  pub next : ℕ
  pub queries : next_general s i ≡ Some next
  pub records : List Record
  pub taken : done_as (happens s e) ≡ Some (Accepted.Report (record { number = i }) records)
  pub asks : list_any (answers g) records ≡ true
  pub stays : list_any (leaves g) records ≡ false
  pub timely : answers_before d s.settings (margin s.settings) ≡ true

-- From such a report on the group has receivers of all sources on the interface (EXCLUDE mode), whatever events, reloads
-- without a map of places and reports of a plane come, while each general query is answered in time.
abbrev pub MemberKeepsItsRecord : Type 0
MemberKeepsItsRecord =
    (d i g : ℕ) (c : Config) (before : List Given) (s : State) (e : Event) (later : List Given) → IsLedTo c before s
    → AreAccepted (step s e).state later → IsReported d i g s e → is_answered d i g (ForQuery (margin s.settings)) (step s e).state later ≡ true
    → local_receiver_star (state_given (step s e).state later) g i ≡ true
