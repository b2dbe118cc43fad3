-- At each moment of an event the rows that make a router join have a cause; so each Join that it sends is asked for.
use Rattle.std.{proofs.{Common.{Bool, List, None, Ok, Option, Result, Some, [], ap, arith, false, inl, inr, is_some, length, lt-ltb, ltb-true, nat_lt, option_map, refl, subst, sym, true, ℕ, ◌++◌, ◌+◌, ◌-◌, ◌<◌, ◌∙◌, ◌∷◌, ◌≡◌, ◌≤◌, ◌⊎◌}}, specs.{Cmp.{first_so}, List.{AllByRecursion}, Option.option_map_or}}
use Rattle.pim_ip.{specs.{declared.refusal.Refusal.Refusal}}
use Rattle.pim_types.{proofs.Keys.equal_keys, specs.{Keys.{group_in, iface_in, source_in, source_key}, declared.{event.Event.Event, fact.{DownstreamRow.DownstreamRow, Key.Key, RegisterRow.RegisterRow}, outcome.{Emission.Emission, Stop.Stop, Verdict.Verdict}, timer.TimerKind.TimerKind}}}
use Rattle.pim_model.{specs.{Asserts.{assert_due}, Cause.{Happened, Past, done_as, happened, if_done, is_down_of, past_after}, Downstream.{downstream_expired, prune_pending_due}, Firing.{fire_all, fire_instant, fire_once, fire_row, fired, keepalive_due, settled}, Hellos.{hello_due, neighbour_due}, Judging.{Judged, judged}, Limits.{is_in_subnet}, Messages.Message, Querier.{general_query_due, group_record_due, group_repeat_due, other_querier_gone, querying_on, source_record_due, source_repeat_due, sources_sent}, Records.{with_members, with_repeats_of_rows}, Registers.{could_register, register_due}, Sets.{is_register_join}, State.{Addressing, State, is_up, opening}, Step.{Answered, Change, advanced, change, concluded, done, ran, state_after, step, stopped, taken, taken_unless_full}, Tables.{has_row, row_at, same_bool}, Timers.{Ending, next_due, timers}, Upstream.{join_timer_due, override_timer_due}, declared.accepted.Accepted.Accepted}}
use Rattle.law_settled.{proofs.{Ends.{Ends, Mark, shows}, FineStates.{IsFine, Lateness}, FineTables.fine_drop_at, Firing.{at_moment, fired_fine}, ListLaws.{any_among_all, each_append, each_more, each_of_list}, Parts.{Sources}, RisingKeys.sorted_of_up, SettledStates.{its_ahead, settled_is_fine}, ShownEnds.shown_is_later, Steps.{step_is_settled}, TableLaws.row_of_each, TimerLaws.{IsNext, is_next}, TurnLaws.kept_to_the_end, UnchangedLaws.{full_or_taken, taken_done}, Unsettled.{Unsettled, settling_leaves, untold}, Upstream.settled_fine}}
use Rattle.law_events.{proofs.{OwnKeys.sources_once, Rest.{opening_is_at_rest, step_is_at_rest}, Settled.fire_configured, SettledRegisters.settling_quiets}, specs.{Locality.{IsQuiet, is_register_settled}, Rest.IsAtRest}}
use Rattle.law_streams.{proofs.{CausesAsks.{IsAsked, JoinAsked, pending_asked, rows_more}, EndSoon.change_present, Fired.{all_same, settled_asked}, Keyed.{Under, under_changed}, Lasting.{assert_lasting, pending_lasting}, Leaves.taken_is_done, LiesUnder.row_fires, Made.{step_taken}, Members.{group_due_asked, source_due_asked}, Past.{CausedBy, goes_on}, Same.{assert_due_same, register_due_same, rows_of}, Settings.step_configured, Steps.{opening_asked, step_asked}, Wanted.{Wanted, settled_wanted}, WantedRuns.{JoinsAreWanted, run_wanted}}, specs.{Copies.{happens}, Joins.is_time}}
use Rattle.law_converges.{proofs.{SentJoins.{AllSaid, change_asks, fired_asks, settled_asks}, SentMessages.{Other, each_until, others}, WantedCauses.{IsKnown, cause_of, registered_near}}, specs.JoinsAsked.{EachJoinIsAsked, IsAskedMessage, SendsAsked}}

-- ---- what each expiry of a timer keeps

module _ (A : ℕ → ℕ → ℕ → ℕ → Type 0) where
  fired_asked : (s : State) (kind : TimerKind) (k : Key) → IsAsked A s → IsAsked A (fired s kind k).0
  unfolding fired fire_row downstream_expired neighbour_due keepalive_due override_timer_due join_timer_due
      other_querier_gone querying_on group_repeat_due source_repeat_due sources_sent general_query_due hello_due
  fired_asked s TimerKind.PrunePending k f = go (row_at s.downstream k) refl
    where
      go : (o : Option DownstreamRow) → row_at s.downstream k ≡ o → IsAsked A (option_map_or (prune_pending_due s k) o (s, [])).0
      go None there = f
      go (Some r) there = pending_asked A s k r there f
  fired_asked s TimerKind.DownstreamExpiry k f =
      record { joins = fine_drop_at (JoinAsked A) s.downstream k f.joins; groups = f.groups; sources = f.sources }
  fired_asked s TimerKind.GroupRecord k f = group_due_asked A (iface_in k) (group_in k) s f
  fired_asked s TimerKind.SourceRecord k f = source_due_asked A (iface_in k) (group_in k) s (source_in k) f
  fired_asked s TimerKind.Assert k f =
      row_fires (IsAsked A) s (assert_due s k) (row_at s.asserts k) f (λ r. all_same A s (assert_due s k r).0 (assert_due_same s k r) f)
  fired_asked s TimerKind.Register k f =
      row_fires (IsAsked A) s (λ (r : RegisterRow). register_due s k r.state) (row_at s.registers k) f
      (λ r. all_same A s (register_due s k r.state).0 (register_due_same s k r.state) f)
  fired_asked s kind k f = grind (arith, row_fires)

module _ (P : Key → Type 0) where
  fired_joins : (s : State) (kind : TimerKind) (k : Key) → Under P s.join_timers → Under P (fired s kind k).0.join_timers
  unfolding fired fire_row downstream_expired neighbour_due keepalive_due override_timer_due join_timer_due
      other_querier_gone querying_on general_query_due hello_due register_due group_repeat_due source_repeat_due sources_sent
      group_record_due source_record_due with_members with_repeats_of_rows
  fired_joins s kind k f = grind (arith, row_fires, pending_lasting, assert_lasting, under_changed)

-- ---- a source whose register is settled

module _ (t : State) (quiet : IsQuiet t) where
  could_where : (b c : Bool) → same_bool b c ≡ true → c ≡ true → b ≡ true
  could_where b c e f = grind arith

  registers : (g src : ℕ) (o : Option RegisterRow) → row_at t.registers (source_key 0 g src) ≡ o
      → is_register_join (option_map (λ (r : RegisterRow). r.state) o) ≡ true → could_register t g src ≡ true
  unfolding has_row
  registers g src None there e = cc e
  registers g src (Some r) there e =
      could_where (could_register t g src) (has_row t.registers (source_key 0 g src))
      (row_of_each (λ x. is_register_settled t x.0 ≡ true) (source_key 0 g src) r t.registers
      (each_of_list (λ x. is_register_settled t x.0) t.registers quiet.registers_settled) there)
      (ap (λ (o : Option RegisterRow). is_some o) there)

-- ---- known states

module _ (past : Past) (s t : State) (up : ℕ → Bool) (asked : IsAsked (CausedBy past) t)
    (fine : IsFine s.present (nat_lt s.present) up (record t { present = s.present })) (quiet : IsQuiet t)
    (configured : t.configured ≡ s.configured) where
  known : IsKnown past s (untold t)
  known = record {
    configured = configured;
    causes = cause_of past s.present up t asked fine;
    own = λ g src e. subst (λ (c : Addressing). is_in_subnet c.interfaces src ≡ true) configured
        (registered_near t src g (registers t quiet g src _ refl e));
  }

-- ---- time that passes

module _ (past : Past) (s : State) (up : ℕ → Bool) where
  -- between two expiries
  record Inside (t : State) : Type 0 where
    asked : IsAsked (CausedBy past) t
    fine : IsFine s.present (nat_lt s.present) up (record t { present = s.present })
    wanted : JoinsAreWanted t
    quiet : IsQuiet t
    configured : t.configured ≡ s.configured

  known_inside : (t : State) → Inside t → IsKnown past s (untold t)
  known_inside t f = known past s t up f.asked f.fine f.quiet f.configured

  module _ (w moment : ℕ) (t : State) (e : Ending) (f : Inside t) (there : next_due moment t ≡ Some e) where
    abbrev opened : State
    opened = record t { present = e.end }

    abbrev own : State × List Message
    own = fired opened e.timer.kind e.timer.key

    abbrev after : State
    after = (settled t own w).0

    next : IsNext moment t e
    next = is_next moment t e there

    same_ends : (kind : TimerKind) (mark : Mark) → shows kind mark (record t { present = s.present }) ≡ shows kind mark t
    same_ends TimerKind.Neighbour mark = refl
    same_ends _ mark = refl

    past_time : s.present < e.end
    past_time =
        shown_is_later s.present (record t { present = s.present }) (its_ahead s.present up (record t { present = s.present }) f.fine).ends
        e.timer.kind e.timer.key e.end (same_ends e.timer.kind (Ends e.timer.key e.end) ∙ (next).shown)

    in_order : (a b : ℕ) → s.present < a → a < b → s.present < b
    in_order a b x y = omega (arith, x, y)

    not_before : (a b : ℕ) → s.present < a → a ≤ b → s.present < b
    not_before a b x y = omega (arith, x, y)

    late : Lateness e.end (nat_lt s.present)
    late = record {
      later = λ n lt. lt-ltb s.present n (in_order e.end n past_time lt);
      up = λ a b le x. lt-ltb s.present b (not_before a b (ltb-true s.present a x) le);
    }

    own_fine : IsFine e.end (nat_lt s.present) up (own).0
    own_fine =
        fired_fine e.end (nat_lt s.present) up late opened e.timer.kind e.timer.key
        (at_moment s.present e.end (nat_lt s.present) up (record t { present = s.present }) f.fine)

    same_configured : (after).configured ≡ s.configured
    unfolding fire_once
    same_configured = sym (fire_configured t w e).configured ∙ f.configured

    inside : Inside after
    inside = record {
      asked = settled_asked (CausedBy past) t own w (fired_asked (CausedBy past) opened e.timer.kind e.timer.key f.asked);
      fine = at_moment e.end s.present (nat_lt s.present) up after (settled_fine e.end (nat_lt s.present) up late t own w own_fine);
      wanted = settled_wanted t own w (fired_joins (Wanted t) opened e.timer.kind e.timer.key f.wanted);
      quiet = settling_quiets t own w (sources_once ((own).0).sources (sorted_of_up ((own).0).sources ((own_fine).tables Sources).up));
      configured = same_configured;
    }

    -- a Join Timer runs for what is wanted
    timer_wanted : (kind : TimerKind) → e.timer.kind ≡ kind → kind ≡ TimerKind.Join → Wanted t e.timer.key
    timer_wanted TimerKind.Join is join =
        any_among_all (λ x. Wanted t x.0) _
        (λ x wanted on. subst (Wanted t) (sym (equal_keys e.timer.key x.0 (first_so _ _ on))) wanted) t.join_timers f.wanted
        (subst (λ (kind : TimerKind). shows kind (Ends e.timer.key e.end) t ≡ true) is (next).shown)
    timer_wanted kind is join = absurd cc

    says : AllSaid past s (settled t own w).1
    says =
        settled_asks past s t own w
        (fired_asks past s t opened e.timer.kind e.timer.key (known_inside t f) (λ join. (timer_wanted e.timer.kind refl join).1))
        (known_inside after inside)

  once_inside : (w moment : ℕ) (t : State) (e : Ending) → Inside t → next_due moment t ≡ Some e → Inside (fire_once w t e).0
  unfolding fire_once
  once_inside w moment t e f there = inside w moment t e f there

  once_says : (w moment : ℕ) (t : State) (e : Ending) → Inside t → next_due moment t ≡ Some e → AllSaid past s (fire_once w t e).1
  unfolding fire_once
  once_says w moment t e f there = says w moment t e f there

  instant_inside : (w : ℕ) (t : State) (e : Ending) → Inside t → Inside (fire_instant w t e).0
  unfolding fire_instant
  instant_inside w t e f =
      kept_to_the_end (next_due e.end) (fire_once w) Inside (λ u d g there. once_inside w e.end u d g there) (length (timers t) + 1) t f

  instant_says : (w : ℕ) (t : State) (e : Ending) → Inside t → AllSaid past s (fire_instant w t e).1
  unfolding fire_instant
  instant_says w t e f =
      each_until (IsAskedMessage past s) (next_due e.end) (fire_once w) Inside (λ u d g there. once_inside w e.end u d g there)
      (λ u d g there. once_says w e.end u d g there) (length (timers t) + 1) t f

  all_say : (w moment : ℕ) → Inside s → AllSaid past s (fire_all w moment s).1
  unfolding fire_all
  all_say w moment f =
      each_until (IsAskedMessage past s) (next_due moment) (fire_instant w) Inside (λ u d g there. instant_inside w u d g)
      (λ u d g there. instant_says w u d g) (moment + 2 - s.present) s f

-- ---- one event

module _ (past : Past) (s : State) (e : Event) (asked : IsAsked (CausedBy past) s) (rest : IsAtRest s) (wanted : JoinsAreWanted s) where
  abbrev here : Happened
  here = happens s e

  abbrev now : Past
  now = happened s e ∷ past

  abbrev Sends : List Emission → Type 0
  Sends xs = AllByRecursion (λ x. IsAskedMessage now s x ⊎ Other s e x) xs

  of_messages : (xs : List Emission) → AllSaid now s xs → Sends xs
  of_messages xs f = each_more (IsAskedMessage now s) (λ x. IsAskedMessage now s x ⊎ Other s e x) (λ x h. inl h) xs f

  of_others : (xs : List Emission) → AllByRecursion (Other s e) xs → Sends xs
  of_others xs f = each_more (Other s e) (λ x. IsAskedMessage now s x ⊎ Other s e x) (λ x h. inr h) xs f

  -- ---- by what was accepted

  module _ (a : Accepted) (was : done_as here ≡ Some a) (timeless : is_time a ≡ false) where
    abbrev changed_so : State × List Message
    changed_so = ((change s e.draw a).state, (change s e.draw a).messages)

    is_done : step s e ≡ done s e.draw (change s e.draw a)
    is_done = step_taken s e a was ∙ taken_is_done s e.draw a timeless

    after_is : (step s e).state ≡ (settled s changed_so e.draw).0
    unfolding done
    after_is = ap (λ (x : Answered). x.state) is_done

    same_time : ((step s e).state).present ≡ s.present
    same_time =
        ap (λ (x : State). x.present) after_is
        ∙ (ap (λ (u : Unsettled). u.present) (settling_leaves s changed_so e.draw) ∙ change_present s e.draw a)

    fine_after : IsFine s.present (nat_lt s.present) (is_up (step s e).state) (record (step s e).state { present = s.present })
    fine_after =
        subst (λ (n : ℕ). IsFine n (nat_lt n) (is_up (step s e).state) (record (step s e).state { present = n })) same_time
        (settled_is_fine (step s e).state (step_is_settled s e rest.settled))

    known_after : IsKnown now s (untold (settled s changed_so e.draw).0)
    known_after =
        subst (λ (x : State). IsKnown now s (untold x)) after_is
        (known now s (step s e).state (is_up (step s e).state) (step_asked past s e asked rest.settled).rows fine_after
        (step_is_at_rest s e rest).quiet (sym (step_configured s e).configured))

    done_sends : Sends (taken s e.draw a).emissions
    unfolding done
    done_sends =
        let c : Change = change s e.draw a in
        let is : (taken s e.draw a).emissions ≡ (settled s changed_so e.draw).1 ++ c.copies ++ c.registered =
        ap (λ (x : Answered). x.emissions) (taken_is_done s e.draw a timeless) in
        subst Sends (sym is)
        (each_append (λ x. IsAskedMessage now s x ⊎ Other s e x) ((settled s changed_so e.draw).1 ++ c.copies) c.registered
        (each_append (λ x. IsAskedMessage now s x ⊎ Other s e x) (settled s changed_so e.draw).1 c.copies
        (of_messages _ (settled_asks now s s changed_so e.draw (change_asks now s s e.draw a) known_after)) (of_others _ (others s e a was).copies))
        (of_others _ (others s e a was).registered))

  -- at the beginning of time that passes
  at_first : (moment : ℕ) → done_as here ≡ Some (Accepted.Advance moment) → Inside now s (is_up s) s
  at_first moment was = record {
    asked = rows_more (CausedBy past) (CausedBy now) (rows_of s)
        (λ i. goes_on past here i (ap (is_down_of i) was)) asked;
    fine = settled_is_fine s rest.settled;
    wanted = wanted;
    quiet = rest.quiet;
    configured = refl;
  }

  taken_sends : (a : Accepted) → done_as here ≡ Some a → (b : Bool) → is_time a ≡ b → Sends (taken s e.draw a).emissions
  unfolding taken advanced
  taken_sends (Accepted.Advance moment) was b is =
      of_messages _ (all_say now s (is_up s) e.draw moment (at_first moment was))
  taken_sends a was false is = done_sends a was is
  taken_sends a was true is = absurd cc

  done_is : (j : Judged) → judged s e.kind ≡ j → done_as here ≡ if_done (concluded s (taken_unless_full s e.draw) j).answer j
  unfolding done_as step
  done_is j is = rw is refl

  full_sends : (a : Accepted) (b : Bool) → done_as here ≡ if_done (full_or_taken s e.draw a b).answer (Ok a)
      → Sends (full_or_taken s e.draw a b).emissions
  full_sends a true was = tt
  full_sends a false was =
      taken_sends a (was ∙ ap (λ (answer : Result Verdict Refusal). if_done answer (Ok a)) (taken_done s e.draw a)) (is_time a) refl

  stop_sends : (stop : Stop) → Sends (stopped s stop).emissions
  stop_sends stop = grind arith

  concluded_sends : (j : Judged) → done_as here ≡ if_done (concluded s (taken_unless_full s e.draw) j).answer j
      → Sends (concluded s (taken_unless_full s e.draw) j).emissions
  unfolding taken_unless_full
  concluded_sends j was = grind (arith, stop_sends, full_sends)

  pub step_sends : SendsAsked past s e
  unfolding step
  step_sends = concluded_sends (judged s e.kind) (done_is (judged s e.kind) refl)

-- ---- every run

-- what is carried from event to event
record Goes (past : Past) (s : State) : Type 0 where
  asked : IsAsked (CausedBy past) s
  rest : IsAtRest s

run_goes : (events : List Event) (past : Past) (s : State) → Goes past s → Goes (past_after past s events) (state_after s events)
unfolding past_after state_after ran
run_goes [] past s f = f
run_goes (x ∷ xs) past s f =
    run_goes xs (happened s x ∷ past) (step s x).state
    (record { asked = (step_asked past s x f.asked f.rest.settled).rows; rest = step_is_at_rest s x f.rest })

pub each_join_is_asked : EachJoinIsAsked
each_join_is_asked c earlier e accepted =
    let f : Goes (past_after [] (opening c) earlier) (state_after (opening c) earlier) =
    run_goes earlier [] (opening c) (record { asked = opening_asked c; rest = opening_is_at_rest c accepted }) in
    step_sends (past_after [] (opening c) earlier) (state_after (opening c) earlier) e (f).asked (f).rest (run_wanted c earlier)
