-- A member that answers each general query in time keeps its record.
use Rattle.std.{proofs.{Common.{◌≡◌, ◌∙◌, ℕ, ◌+◌, ◌*◌, ◌-◌, ◌<◌, ◌≤◌, ◌&&◌, ◌||◌, ◌==◌, not, nat_le, nat_lt, Bool, true, false, cond, is_some, List, [], ◌∷◌, length, Option, Some, None, option_and_then, refl, sym, ap, subst, arith, eqb-true, eq-eqb, zero, suc}, lemmas.Bool.Decides.nat_tests}, specs.{Cmp.{first_so, second_so}, List.{AllByRecursion, list_any}, Option.option_map_or}}
use Rattle.pim_types.{specs.{Keys.{iface_key, star_key}, declared.{config.{Config.Config, IfaceId.IfaceId, Settings.Settings}, event.Event.Event, fact.{GroupRecordRow.GroupRecordRow, Key.Key, QuerierRole.QuerierRole, QuerierRow.QuerierRow}}}}
use Rattle.igmp_wire.{specs.Values.Record}
use Rattle.pim_model.{specs.{declared.accepted.Accepted.Accepted, Cause.done_as, Querier.{group_end, group_membership_interval, is_lower_querier, query_interval, robustness}, Receivers.{is_exclude, is_exclude_among, local_receiver_star}, State.{State, settings_of}, Step.{Answered, advanced, step, taken}, Tables.{row_at}, Timers.next_query}}
use Rattle.law_settled.{proofs.{ListLaws.each_of_list, SettledStates.settled_is_lawful, TableLaws.row_of_each}, specs.Ready.IsSettled}
use Rattle.law_events.{specs.Rest.IsAtRest, proofs.Rest.step_is_at_rest}
use Rattle.law_streams.{specs.{Copies.happens, Joins.is_time}, proofs.{Made.step_taken, Settings.step_configured, Leaves.taken_is_done}}
use Rattle.law_states.{specs.{Reload.config_of, ReloadLaws.{is_near_by, next_query_is_near}, Reloading.reload, History.{AreAccepted, Given, state_given}}, proofs.{Ground.reload_is_under, Queriers.next_query_is_near_anew, Rest.reload_leaves_rest, Histories.led_states_rest, NearStates.led_queries_are_near, NextQueries.{kept_near, next_query_stays_near}}}
use Rattle.law_plane.{specs.Keeping.{keep, kept_until}, proofs.Keeps.{keep_by, keep_is_at_rest}}
use Rattle.igmp_older.{specs.Open.runs_until}
use Rattle.law_hosts.{specs.{Staying.KeepsTimer, Members.{ForAnswer, ForQuery, MemberKeepsItsRecord, Waiting, after_time, answers, answers_before, answers_still, asked_by, in_time, is_answered, leaves, margin, may_be_given, may_happen, may_reload, next_general, response_interval, waiting_after, waiting_given}}, proofs.{Stays.event_keeps_timer, Done.not_done, Queries.{Queries, done_next, leaves_next, next_in, time_keeps, time_queries}, Reloads.{Reloaded, reload_leaves}, Reports.done_end}}

-- ---- numbers

runs_sooner : (a b : ℕ) (o : Option ℕ) → a ≤ b → runs_until b o ≡ true → runs_until a o ≡ true
runs_sooner a b None le f = f
runs_sooner a b (Some end) le f = grind (arith, nat_tests, le, f)

at_most : (a b : ℕ) → nat_le a b ≡ true → a ≤ b
at_most a b e = grind (arith, nat_tests, e)

less : (a b : ℕ) → nat_lt a b ≡ true → a < b
less a b e = grind (arith, nat_tests, e)

not_by : (a b : ℕ) → b < a → nat_le a b ≡ false
not_by a b lt = grind (arith, nat_tests, lt)

past : (a b : ℕ) → nat_le a b ≡ false → b < a
past a b e = grind (arith, nat_tests, e)

-- a number of intervals, and one more
times : (n q : ℕ) → 0 < n → (n - 1) * q + q ≡ n * q
times zero q lt = absurd (omega (arith, lt))
times (suc n) q lt = grind arith

not_false : (a : Bool) → not a ≡ true → a ≡ false
not_false a e = grind arith

some_of : (o : Option ℕ) → is_some o ≡ true → (n : ℕ) × (o ≡ Some n)
some_of None e = absurd cc
some_of (Some n) e = (n, refl)

-- ---- the values in force

module _ (i : ℕ) (s : State) (next : ℕ) where
  record InForce : Type 0 where
    values : group_membership_interval s i ≡ s.settings.robustness * (1000 * s.settings.query_interval) + response_interval s.settings
    soon : next ≤ s.present + 1000 * s.settings.query_interval

  abbrev membership : Option QuerierRow → ℕ
  membership o =
      option_map_or (λ (q : QuerierRow). q.robustness) o s.settings.robustness
      * (1000 * option_map_or (λ (q : QuerierRow). q.query_interval) o s.settings.query_interval)
      + response_interval s.settings

  by_role : (q : QuerierRow) (role : QuerierRole) → next_query role ≡ Some next → is_near_by s.present s.settings q role ≡ true
      → (membership (Some q) ≡ s.settings.robustness * (1000 * s.settings.query_interval) + response_interval s.settings)
      × (next ≤ s.present + 1000 * s.settings.query_interval)
  by_role q (QuerierRole.NonQuerier end) is near = absurd cc
  by_role q (QuerierRole.Querier x left) is near =
      let robust : q.robustness ≡ s.settings.robustness = eqb-true _ _ (first_so (q.robustness == s.settings.robustness) _ near) in
      let rest = second_so (q.robustness == s.settings.robustness) _ near in
      let interval : q.query_interval ≡ s.settings.query_interval = eqb-true _ _ (first_so (q.query_interval == s.settings.query_interval) _ rest) in
      let ends = second_so (q.query_interval == s.settings.query_interval) _ rest in
      let soon : x ≤ s.present + 1000 * q.query_interval = at_most _ _ (first_so (nat_le x (s.present + 1000 * q.query_interval)) _ ends) in
      let same : x ≡ next = cc is in
      (λ j. robust j * (1000 * interval j) + response_interval s.settings, omega (arith, soon, same, interval))

  by_row : (o : Option QuerierRow) → row_at s.queriers (iface_key i) ≡ o → next_in o ≡ Some next → next_query_is_near s ≡ true
      → (membership o ≡ s.settings.robustness * (1000 * s.settings.query_interval) + response_interval s.settings)
      × (next ≤ s.present + 1000 * s.settings.query_interval)
  unfolding next_query_is_near
  by_row None at is near = absurd cc
  by_row (Some q) at is near =
      by_role q q.role is
      (row_of_each (λ (e : Key × QuerierRow). is_near_by s.present s.settings e.1 (e.1).role ≡ true) (iface_key i) q s.queriers
      (each_of_list (λ (e : Key × QuerierRow). is_near_by s.present s.settings e.1 (e.1).role) s.queriers near) at)

  in_force : next_general s i ≡ Some next → next_query_is_near s ≡ true → InForce
  unfolding next_general group_membership_interval robustness query_interval
  in_force is near =
      let both = by_row (row_at s.queriers (iface_key i)) refl is near in
      record { values = both.0; soon = both.1 }

-- ---- what holds meanwhile

module _ (d i g : ℕ) where
  abbrev until : ℕ → Waiting → ℕ
  until next (ForQuery lasts) = next + lasts
  until next (ForAnswer due) = due + 1

  record Held (t : Settings) (x : Waiting) (s : State) : Type 0 where
    next : ℕ
    queries : next_general s i ≡ Some next
    lasts : runs_until (until next x) (group_end s i g) ≡ true
    still : answers_still d t x ≡ true

  record Covered (x : Waiting) (s : State) : Type 0 where
    held : Held s.settings x s
    timely : answers_before d s.settings (margin s.settings) ≡ true

  -- ---- an event

  module _ (s : State) (e : Event) (rest : IsSettled s) where
    abbrev then : State
    then = (step s e).state

    end_stays : (t : ℕ) (o : Option Accepted) → done_as (happens s e) ≡ o → runs_until t (group_end s i g) ≡ true → KeepsTimer t i g o
        → runs_until t (group_end then i g) ≡ true
    end_stays t o was runs off =
        subst (λ (end : Option ℕ). runs_until t end ≡ true)
        (sym (event_keeps_timer t i g s e rest runs (subst (λ (x : Option Accepted). KeepsTimer t i g x) (sym was) off))) runs

    next_stays : (a : Accepted) → done_as (happens s e) ≡ Some a → is_time a ≡ false → leaves_next i s a ≡ true
        → next_general then i ≡ next_general s i
    next_stays a was timeless off =
        ap (λ (x : Answered). next_general x.state i) (step_taken s e a was ∙ taken_is_done s e.draw a timeless) ∙ done_next i s e.draw a off

    -- neither the group timer nor the next general query moves
    stays : (x : Waiting) (a : Accepted) → Held s.settings x s → done_as (happens s e) ≡ Some a → is_time a ≡ false → leaves_next i s a ≡ true
        → ((t : ℕ) → KeepsTimer t i g (Some a)) → Held s.settings x then
    stays x a h was timeless off kept = record {
      next = h.next;
      queries = next_stays a was timeless off ∙ h.queries;
      lasts = end_stays (until h.next x) (Some a) was h.lasts (kept (until h.next x));
      still = h.still;
    }

    -- time
    module _ (m : ℕ) (was : done_as (happens s e) ≡ Some (Accepted.Advance m)) where
      is_advanced : then ≡ (advanced s e.draw m).state
      unfolding taken
      is_advanced = ap (λ (x : Answered). x.state) (step_taken s e (Accepted.Advance m) was)

      some_next : (next : ℕ) → next_general s i ≡ Some next → (n : ℕ) × (next_general then i ≡ Some n)
      some_next next is =
          some_of (next_general then i)
          (subst (λ (t : State). Queries i t) (sym is_advanced) (time_queries i s e.draw m (ap is_some is)))

      asked_held : (next lasts : ℕ) (b : Bool) → nat_le next m ≡ b → Held s.settings (ForQuery lasts) s → next_general s i ≡ Some next
          → runs_until (next + lasts) (group_end s i g) ≡ true
          → in_time m (cond b (ForAnswer (next + (response_interval s.settings + d))) (ForQuery lasts)) ≡ true
          → Held s.settings (cond b (ForAnswer (next + (response_interval s.settings + d))) (ForQuery lasts)) then
      asked_held next lasts true due h is runs timely =
          let due : ℕ = next + (response_interval s.settings + d) in
          let by : m ≤ due = at_most m due timely in
          let before : response_interval s.settings + d < lasts = less (response_interval s.settings + d) lasts h.still in
          let later = some_next next is in
          record {
            next = later.0;
            queries = later.1;
            lasts = runs_sooner (due + 1) (next + lasts) (group_end then i g) (omega (arith, before))
                (end_stays (next + lasts) (Some (Accepted.Advance m)) was runs (not_by (next + lasts) m (omega (arith, by, before))));
            still = refl;
          }
      asked_held next lasts false due h is runs timely =
          let ahead : m < next = past next m due in
          record {
            next = next;
            queries = ap (λ (t : State). next_general t i) is_advanced
                ∙ time_keeps i next m due e.draw s (record { there = is; lawful = settled_is_lawful s rest });
            lasts = end_stays (next + lasts) (Some (Accepted.Advance m)) was runs (not_by (next + lasts) m (omega (arith, ahead)));
            still = h.still;
          }

      time_held : (x : Waiting) → Held s.settings x s → in_time m (after_time d i s m x) ≡ true
          → Held s.settings (after_time d i s m x) then
      time_held (ForAnswer due) h timely =
          let by : m ≤ due = at_most m due timely in
          let later = some_next h.next h.queries in
          record {
            next = later.0;
            queries = later.1;
            lasts = end_stays (due + 1) (Some (Accepted.Advance m)) was h.lasts (not_by (due + 1) m (omega (arith, by)));
            still = refl;
          }
      time_held (ForQuery lasts) h timely =
          subst (λ (o : Option ℕ). in_time m (asked_by d s.settings m lasts o) ≡ true → Held s.settings (asked_by d s.settings m lasts o) then)
          (sym h.queries)
          (λ (f : in_time m (asked_by d s.settings m lasts (Some h.next)) ≡ true).
          asked_held h.next lasts (nat_le h.next m) refl h h.queries h.lasts f) timely

    -- a report
    module _ (near : next_query_is_near s ≡ true) (timely : answers_before d s.settings (margin s.settings) ≡ true)
        (j : IfaceId) (rs : List Record) (was : done_as (happens s e) ≡ Some (Accepted.Report j rs)) where
      abbrev its_end : Option ℕ
      its_end = group_end then i g

      report_end : (j.number == i) ≡ true → list_any (leaves g) rs ≡ false
          → its_end ≡ cond (list_any (answers g) rs) (Some (s.present + group_membership_interval s i)) (group_end s i g)
      report_end here none =
          ap (λ (x : Answered). group_end x.state i g) (step_taken s e (Accepted.Report j rs) was ∙ taken_is_done s e.draw (Accepted.Report j rs) refl)
          ∙ done_end i g s e.draw j rs here none

      late_enough : (next : ℕ) → next_general s i ≡ Some next
          → runs_until (next + margin s.settings) (Some (s.present + group_membership_interval s i)) ≡ true
      late_enough next is =
          let now : InForce i s next = in_force i s next is near in
          let some : 0 < s.settings.robustness = less 0 s.settings.robustness (settled_is_lawful s rest).firable.robustness in
          let more : (s.settings.robustness - 1) * (1000 * s.settings.query_interval) + 1000 * s.settings.query_interval
          ≡ s.settings.robustness * (1000 * s.settings.query_interval) =
          times s.settings.robustness (1000 * s.settings.query_interval) some in
          reaches next (1000 * s.settings.query_interval) s.present
          ((s.settings.robustness - 1) * (1000 * s.settings.query_interval))
          (s.settings.robustness * (1000 * s.settings.query_interval)) (response_interval s.settings) (group_membership_interval s i) now.soon more now.values
        where
          reaches : (next q p a b r f : ℕ) → next ≤ p + q → a + q ≡ b → f ≡ b + r → nat_le (next + (a + r)) (p + f) ≡ true
          reaches next q p a b r f soon more is = grind (arith, nat_tests, soon, more, is)

      answered : (x : Waiting) (c : Bool) → list_any (answers g) rs ≡ c → (next : ℕ) → next_general s i ≡ Some next
          → (j.number == i) ≡ true → list_any (leaves g) rs ≡ false → (c ≡ false → Held s.settings x s)
          → Held s.settings (cond c (ForQuery (margin s.settings)) x) then
      answered x true has next is here none h = record {
        next = next;
        queries = next_stays (Accepted.Report j rs) was refl refl ∙ is;
        lasts = subst (λ (end : Option ℕ). runs_until (next + margin s.settings) end ≡ true)
            (sym (report_end here none ∙ ap (λ (b : Bool). cond b (Some (s.present + group_membership_interval s i)) (group_end s i g)) has))
            (late_enough next is);
        still = timely;
      }
      answered x false has next is here none h =
          let old : Held s.settings x s = h refl in
          record {
            next = old.next;
            queries = next_stays (Accepted.Report j rs) was refl refl ∙ old.queries;
            lasts = subst (λ (end : Option ℕ). runs_until (until old.next x) end ≡ true)
                (sym (report_end here none ∙ ap (λ (b : Bool). cond b (Some (s.present + group_membership_interval s i)) (group_end s i g)) has))
                old.lasts;
            still = old.still;
          }

      elsewhere : (j.number == i) ≡ false → (xs : List Record) → AllByRecursion (λ (r : Record). ((j.number == i) && (r.group == g)) ≡ false) xs
      elsewhere off [] = tt
      elsewhere off (r ∷ xs) = (ap (λ (b : Bool). b && (r.group == g)) off, elsewhere off xs)

      report_held : (x : Waiting) (b : Bool) → (j.number == i) ≡ b → Held s.settings x s → not (b && list_any (leaves g) rs) ≡ true
          → Held s.settings (cond (b && list_any (answers g) rs) (ForQuery (margin s.settings)) x) then
      report_held x true here h may =
          answered x (list_any (answers g) rs) refl h.next h.queries here (not_false (list_any (leaves g) rs) may) (λ none. h)
      report_held x false here h may = stays x (Accepted.Report j rs) h was refl refl (λ t. elsewhere here rs)

    module _ (near : next_query_is_near s ≡ true) (timely : answers_before d s.settings (margin s.settings) ≡ true) where
      query_off : (a b c : Bool) → not (a && (b || c)) ≡ true → not (a && b) ≡ true
      query_off a b c e = grind arith

      group_off : (a b c : Bool) → not (a && (b || c)) ≡ true → (a && c) ≡ false
      group_off a b c e = grind arith

      lower_at : (j : IfaceId) (from : ℕ) (c : Bool) → not ((j.number == i) && (is_lower_querier s i from || c)) ≡ true
          → not ((j.number == i) && is_lower_querier s j.number from) ≡ true
      lower_at j from c e = go (j.number == i) refl e where
        go : (b : Bool) → (j.number == i) ≡ b → not (b && (is_lower_querier s i from || c)) ≡ true → not (b && is_lower_querier s j.number from) ≡ true
        go true here f =
            subst (λ (n : ℕ). not (is_lower_querier s n from) ≡ true) (sym (eqb-true j.number i here)) (query_off true (is_lower_querier s i from) c f)
        go false here f = refl

      event_held : (x : Waiting) (o : Option Accepted) → done_as (happens s e) ≡ o → Held s.settings x s → may_happen d i g x s o ≡ true
          → Held s.settings (waiting_after d i g x s o) then
      unfolding may_happen waiting_after
      event_held x None was h may = subst (Held s.settings x) (sym (not_done s e was)) h
      event_held x (Some (Accepted.Advance m)) was h may = time_held m was x h may
      event_held x (Some (Accepted.Up j)) was h may = stays x (Accepted.Up j) h was refl may (λ t. tt)
      event_held x (Some (Accepted.Down j)) was h may = stays x (Accepted.Down j) h was refl may (λ t. not_false (j.number == i) may)
      event_held x (Some (Accepted.Routes routes)) was h may = stays x (Accepted.Routes routes) h was refl refl (λ t. tt)
      event_held x (Some (Accepted.Rps ranges)) was h may = stays x (Accepted.Rps ranges) h was refl refl (λ t. tt)
      event_held x (Some (Accepted.Hello j from m)) was h may = stays x (Accepted.Hello j from m) h was refl refl (λ t. tt)
      event_held x (Some (Accepted.JoinPruneToMe j m)) was h may = stays x (Accepted.JoinPruneToMe j m) h was refl refl (λ t. tt)
      event_held x (Some (Accepted.JoinPruneSeen j m)) was h may = stays x (Accepted.JoinPruneSeen j m) h was refl refl (λ t. tt)
      event_held x (Some (Accepted.Assert j from a)) was h may = stays x (Accepted.Assert j from a) h was refl refl (λ t. tt)
      event_held x (Some (Accepted.Query j from q)) was h may =
          stays x (Accepted.Query j from q) h was refl (lower_at j from.bits ((q.group == g) && not q.suppress) may)
          (λ t. group_off (j.number == i) (is_lower_querier s i from.bits) ((q.group == g) && not q.suppress) may)
      event_held x (Some (Accepted.Report j rs)) was h may = report_held near timely j rs was x (j.number == i) refl h may
      event_held x (Some (Accepted.Data j p)) was h may = stays x (Accepted.Data j p) h was refl refl (λ t. tt)
      event_held x (Some (Accepted.Register p r)) was h may = stays x (Accepted.Register p r) h was refl refl (λ t. tt)
      event_held x (Some (Accepted.RegisterStop from r)) was h may = stays x (Accepted.RegisterStop from r) h was refl refl (λ t. tt)

  -- ---- events, reloads and reports of a plane

  same_settings : (s : State) (e : Event) → s.settings ≡ (step s e).state.settings
  same_settings s e = (step_configured s e).settings

  event_covers : (s : State) (e : Event) (x : Waiting) → IsAtRest s → next_query_is_near s ≡ true → Covered x s
      → may_happen d i g x s (done_as (happens s e)) ≡ true → Covered (waiting_after d i g x s (done_as (happens s e))) (step s e).state
  event_covers s e x rest near f may = record {
    held = subst (λ (t : Settings). Held t (waiting_after d i g x s (done_as (happens s e))) (step s e).state) (same_settings s e)
        (event_held s e rest.settled near f.timely x (done_as (happens s e)) refl f.held may);
    timely = subst (λ (t : Settings). answers_before d t (margin t) ≡ true) (same_settings s e) f.timely;
  }

  settings_under : (s : State) (c : Config) (w : ℕ) → settings_of c ≡ (reload s c w).0.settings
  unfolding settings_of config_of
  settings_under s c w = ap settings_of (sym (reload_is_under s c w))

  sooner_lasts : (x : Waiting) (soon next : ℕ) (o : Option ℕ) → soon ≤ next → runs_until (until next x) o ≡ true → runs_until (until soon x) o ≡ true
  sooner_lasts (ForQuery lasts) soon next o le f = runs_sooner (soon + lasts) (next + lasts) o (omega (arith, le)) f
  sooner_lasts (ForAnswer due) soon next o le f = f

  reload_covers : (s : State) (c : Config) (w : ℕ) (x : Waiting) → IsAtRest s → Covered x s → may_reload d i x c ≡ true
      → Covered x (reload s c w).0
  reload_covers s c w x rest f may =
      let there : nat_lt i (length c.interfaces) ≡ true = first_so (nat_lt i (length c.interfaces)) _ may in
      let both = second_so (nat_lt i (length c.interfaces)) _ may in
      let timely : answers_before d (settings_of c) (margin (settings_of c)) ≡ true =
      first_so (answers_before d (settings_of c) (margin (settings_of c))) _ both in
      let still : answers_still d (settings_of c) x ≡ true =
      second_so (answers_before d (settings_of c) (margin (settings_of c))) _ both in
      let h : Held s.settings x s = f.held in
      let after : State = (reload s c w).0 in
      let left : Reloaded i g h.next s after =
      reload_leaves i g s c w (until h.next x) h.next (less i (length c.interfaces) there) rest.settled h.queries h.lasts in
      record {
        held = record {
          next = left.queries.soon;
          queries = left.queries.is;
          lasts = subst (λ (o : Option ℕ). runs_until (until left.queries.soon x) o ≡ true) (sym left.lasts)
              (sooner_lasts x left.queries.soon h.next (group_end s i g) left.queries.no_later h.lasts);
          still = subst (λ (t : Settings). answers_still d t x ≡ true) (settings_under s c w) still;
        };
        timely = subst (λ (t : Settings). answers_before d t (margin t) ≡ true) (settings_under s c w) timely;
      }

  kept_covers : (s : State) (h src m : ℕ) (x : Waiting) → Covered x s → Covered x (keep s h src m)
  unfolding kept_until next_general
  kept_covers s h src m x f =
      keep_by s h src m (Covered x) f (λ end is sooner. record {
        held = record { next = f.held.next; queries = f.held.queries; lasts = f.held.lasts; still = f.held.still };
        timely = f.timely;
      })

  is_served : (x : Waiting) (s : State) → Covered x s → local_receiver_star s g i ≡ true
  unfolding is_exclude is_exclude_among
  is_served x s f = runs_on (until f.held.next x) (row_at s.group_records (star_key i g)) f.held.lasts where
    ends : (t : ℕ) (end : Option ℕ) → runs_until t end ≡ true → is_some end ≡ true
    ends t None e = cc
    ends t (Some n) e = refl

    runs_on : (t : ℕ) (o : Option GroupRecordRow) → runs_until t (option_and_then (λ (r : GroupRecordRow). r.end) o) ≡ true
        → option_map_or (λ (r : GroupRecordRow). is_some r.end) o false ≡ true
    runs_on t None e = cc
    runs_on t (Some r) e = ends t r.end e

  all_served : (ys : List Given) (s : State) (x : Waiting) → IsAtRest s → next_query_is_near s ≡ true → AreAccepted s ys → Covered x s
      → is_answered d i g x s ys ≡ true → local_receiver_star (state_given s ys) g i ≡ true
  unfolding is_answered state_given may_be_given waiting_given
  all_served [] s x rest near accepted f may = is_served x s f
  all_served (Given.Happening e ∷ ys) s x rest near accepted f may =
      let o : Option Accepted = done_as (happens s e) in
      all_served ys (step s e).state (waiting_after d i g x s o) (step_is_at_rest s e rest) (next_query_stays_near s e rest near) accepted
      (event_covers s e x rest near f (first_so (may_happen d i g x s o) _ may)) (second_so (may_happen d i g x s o) _ may)
  all_served (Given.Reload c w ∷ ys) s x rest near accepted f may =
      all_served ys (reload s c w).0 x (reload_leaves_rest s c w accepted.0 rest) (next_query_is_near_anew s c w) accepted.1
      (reload_covers s c w x rest f (first_so (may_reload d i x c) _ may)) (second_so (may_reload d i x c) _ may)
  all_served (Given.Placed m c w ∷ ys) s x rest near accepted f may = absurd cc
  all_served (Given.Kept h src m ∷ ys) s x rest near accepted f may =
      all_served ys (keep s h src m) x (keep_is_at_rest s h src m rest) (kept_near s h src m near) accepted
      (kept_covers s h src m x f) may

pub member_keeps_its_record : MemberKeepsItsRecord
member_keeps_its_record d i g c before s e later led accepted f may =
    let rest : IsAtRest s = led_states_rest c before s led in
    let near : next_query_is_near s ≡ true = led_queries_are_near c before s led in
    let x : Waiting = ForQuery (margin s.settings) in
    let held : Held d i g s.settings x (step s e).state =
    answered d i g s e rest.settled near f.timely (record { number = i }) f.records f.taken x true f.asks f.next f.queries
    (eq-eqb i i refl) f.stays (λ no. absurd cc) in
    all_served d i g later (step s e).state x (step_is_at_rest s e rest) (next_query_stays_near s e rest near) accepted
    (record {
      held = subst (λ (t : Settings). Held d i g t x (step s e).state) (same_settings d i g s e) held;
      timely = subst (λ (t : Settings). answers_before d t (margin t) ≡ true) (same_settings d i g s e) f.timely;
    }) may
