-- Each event keeps the rows asked for, and each copy that it makes is; so it is in every run.
use Rattle.std.{proofs.{Common.{◌≡◌, ◌∙◌, ℕ, ◌==◌, Bool, true, false, List, [], ◌∷◌, length, Some, None, Result, Ok, refl, sym, ap, arith, rules}, Math.{Nat.sub-zero, Seq.drop-length}, lemmas.{Grind.common_steps, List.Elements.{All-cons, All-nil}}}, specs.List.{All, AllByRecursion}}
use Rattle.pim_ip.{specs.{Ipv4.Packet, declared.refusal.Refusal.Refusal}}
use Rattle.pim_types.{specs.declared.{config.Config.Config, event.Event.Event, outcome.{Emission.Emission, Outcome.Outcome, Stop.Stop, Verdict.Verdict}}}
use Rattle.pim_wire.{specs.Values.{Encapsulated, Null}}
use Rattle.pim_model.{specs.{declared.accepted.Accepted.Accepted, Asserts.assert_received, Cause.{CopiesAreAsked, Happened, IsAskedFor, OutcomesAreAsked, Passed, Past, copies_in, done_as, happened, if_done, is_down_of, packet_in, past_after}, Downstream.to_me, Forwarding.{Forwarded, forwarded, register_received}, Judging.{Judged, judged}, Messages.Message, Querier.{querier_up, query_seen, querying, report_seen}, State.{State, opening}, Step.{Answered, Change, advanced, change, concluded, done, iface_down, iface_up, outcome_of, packet_forwarded, ran, rps_replaced, run, state_after, step, stopped, taken, taken_unless_full, with_messages}}}
use Rattle.law_settled.{proofs.{UnchangedLaws.{full_or_taken, taken_done}, Steps.{opening_is_settled, step_is_settled}}, specs.Ready.IsSettled}
use Rattle.law_streams.{specs.Asked.{NothingFlowsUnasked, RunIsAsked}, proofs.{CausesAsks.{IsAsked, down_more, rows_more, to_me_asked}, CausesCopies.{AreCopies, copies_are, packet_copies}, Fired.{advanced_asked, all_same, settled_asked}, Flows.{Flows, forwarded_flows, register_flows}, Past.{CausedBy, goes_on, join_new, report_new}, CausesReports.{query_seen_asked, report_asked}, Same.{Same, assert_same, hello_same, register_stop_same, rows_of, seen_same}}}

to_all : {X : Type 0} (P : X → Type 0) (xs : List X) → AllByRecursion P xs → All P xs
to_all P [] f = All-nil P
to_all P (x ∷ xs) f = All-cons P x xs f.0 (to_all P xs f.1)

none_in : (o : Outcome) → o.copies ≡ 0 → copies_in o ≡ []
unfolding copies_in
none_in o e = rw (e, sub-zero, drop-length)

-- ---- one event

module _ (past : Past) (s : State) (e : Event) (f : IsAsked (CausedBy past) s) (ready : IsSettled s) where
  abbrev here : Happened
  here = record { before = s; event = e }

  abbrev after : Past
  after = Passed.Happening here ∷ past

  -- what it leaves: the rows after it, and its copies
  pub record Asked (a : Answered) : Type 0 where
    pub rows : IsAsked (CausedBy after) a.state
    pub copies : CopiesAreAsked past here (outcome_of a)

  later : ((i : ℕ) → is_down_of i (done_as here) ≡ false) → IsAsked (CausedBy after) s
  later up = rows_more (CausedBy past) (CausedBy after) (rows_of s) (λ i. goes_on past here i (up i)) f

  -- by what its copies are
  asked_so : (o : Outcome) (copies : List Emission) → copies_in o ≡ copies → length copies ≡ o.copies
      → AllByRecursion (IsAskedFor past here) copies → CopiesAreAsked past here o
  asked_so o copies are count asked = grind (arith, to_all)

  no_copies : (a : Answered) → a.copies ≡ 0 → CopiesAreAsked past here (outcome_of a)
  no_copies a e = asked_so (outcome_of a) [] (none_in (outcome_of a) e) (sym e) tt

  -- ---- an event that stops

  stop_asked : (stop : Stop) → done_as here ≡ None → Asked (stopped s stop)
  stop_asked stop was = grind (arith, later, no_copies)

  -- ---- an event that changes something

  done_asked : (c : Change) → IsAsked (CausedBy after) c.state → AreCopies past here c.copies c.registered
      → Asked (done s e.draw c)
  unfolding done
  done_asked c rows copies = record {
    rows = settled_asked (CausedBy after) s (c.state, c.messages) e.draw rows;
    copies = asked_so _ c.copies (copies_are past here (Ok Verdict.Done) _ c.copies c.registered copies) refl
        copies.asked;
  }

  -- with messages alone
  silent_asked : (t : State) (messages : List Message) → IsAsked (CausedBy after) t
      → Asked (done s e.draw (with_messages (t, messages)))
  silent_asked t messages rows = done_asked (with_messages (t, messages)) rows (record { asked = tt; to_rp = tt })

  module _ (a : Accepted) (was : done_as here ≡ Some a) (up : (i : ℕ) → is_down_of i (Some a) ≡ false) where
    still : IsAsked (CausedBy after) s
    still = later (λ i. ap (is_down_of i) was ∙ up i)

    same_asked : (t : State) (messages : List Message) → Same s t → Asked (done s e.draw (with_messages (t, messages)))
    same_asked t messages same = silent_asked t messages (all_same (CausedBy after) s t same still)

    packet_asked : (p : Packet) (flow : Forwarded) → Flows s p.destination p.source flow → packet_in (Some a) ≡ Some p
        → Asked (done s e.draw (packet_forwarded p flow))
    packet_asked p flow flows brought =
        done_asked (packet_forwarded p flow) (all_same (CausedBy after) s flow.state flows.state still)
        (packet_copies past s e f ready p flow flows (ap packet_in was ∙ brought))

  other_iface : (i j : ℕ) → (j == i) ≡ false → (i == j) ≡ false
  other_iface i j off = grind (arith, common_steps, off)

  taken_asked : (a : Accepted) → done_as here ≡ Some a → Asked (taken s e.draw a)
  unfolding taken advanced change iface_up querier_up querying rps_replaced
  taken_asked (Accepted.Advance moment) was = record {
    rows = advanced_asked (CausedBy after) s e.draw moment (still (Accepted.Advance moment) was (λ i. refl));
    copies = no_copies (advanced s e.draw moment) refl;
  }
  taken_asked (Accepted.Up i) was = same_asked (Accepted.Up i) was (λ j. refl) (iface_up s e.draw i.number).0 _ refl
  taken_asked (Accepted.Down i) was =
      silent_asked (iface_down s i.number) []
      (down_more (CausedBy past) (CausedBy after) s i.number
      (λ j off. goes_on past here j (ap (is_down_of j) was ∙ other_iface i.number j off)) f)
  taken_asked (Accepted.Routes routes) was = same_asked (Accepted.Routes routes) was (λ j. refl) _ [] refl
  taken_asked (Accepted.Rps ranges) was =
      same_asked (Accepted.Rps ranges) was (λ j. refl) (rps_replaced s ranges) [] refl
  taken_asked (Accepted.Hello i from h) was =
      same_asked (Accepted.Hello i from h) was (λ j. refl) _ [] (hello_same s i.number from.bits h e.draw)
  taken_asked (Accepted.JoinPruneToMe i m) was =
      silent_asked (to_me s i.number m) []
      (to_me_asked (CausedBy after) s (still (Accepted.JoinPruneToMe i m) was (λ j. refl)) i.number m
      (join_new past here i m was))
  taken_asked (Accepted.JoinPruneSeen i m) was =
      same_asked (Accepted.JoinPruneSeen i m) was (λ j. refl) _ [] (seen_same s e.draw i.number m)
  taken_asked (Accepted.Assert i from a) was =
      same_asked (Accepted.Assert i from a) was (λ j. refl) (assert_received s i.number from.bits a).0 _
      (assert_same s i.number from.bits a)
  taken_asked (Accepted.Query i from q) was =
      silent_asked (query_seen s i.number from.bits q) []
      (query_seen_asked (CausedBy after) s i.number from.bits q (still (Accepted.Query i from q) was (λ j. refl)))
  taken_asked (Accepted.Report i records) was =
      silent_asked (report_seen s i.number records).0 _
      (report_asked (CausedBy after) s i.number records (report_new past here i records was)
      (still (Accepted.Report i records) was (λ j. refl)))
  taken_asked (Accepted.Data i p) was =
      packet_asked (Accepted.Data i p) was (λ j. refl) p (forwarded s p.destination p.source i.number)
      (forwarded_flows s p.destination p.source i.number) refl
  taken_asked (Accepted.Register p (Encapsulated inner)) was =
      packet_asked (Accepted.Register p (Encapsulated inner)) was (λ j. refl) inner
      (register_received s p inner.destination inner.source false)
      (register_flows s p inner.destination inner.source false) refl
  taken_asked (Accepted.Register p (Null source group)) was =
      same_asked (Accepted.Register p (Null source group)) was (λ j. refl)
      (register_received s p group source true).state _ (register_flows s p group source true).state
  taken_asked (Accepted.RegisterStop from r) was =
      same_asked (Accepted.RegisterStop from r) was (λ j. refl) _ []
      (register_stop_same s e.draw r.group.bits r.source.bits)

  -- ---- every event

  done_is : (j : Judged) → judged s e.kind ≡ j
      → done_as here ≡ if_done (concluded s (taken_unless_full s e.draw) j).answer j
  unfolding done_as step
  done_is j is = rw is refl

  full_asked : (a : Accepted) (b : Bool) → done_as here ≡ if_done (full_or_taken s e.draw a b).answer (Ok a)
      → Asked (full_or_taken s e.draw a b)
  full_asked a true was = stop_asked (Stop.Refuse Refusal.Full) was
  full_asked a false was =
      taken_asked a (was ∙ ap (λ (answer : Result Verdict Refusal). if_done answer (Ok a)) (taken_done s e.draw a))

  concluded_asked : (j : Judged) → done_as here ≡ if_done (concluded s (taken_unless_full s e.draw) j).answer j
      → Asked (concluded s (taken_unless_full s e.draw) j)
  unfolding taken_unless_full
  concluded_asked j was = grind (arith, stop_asked, full_asked)

  pub step_asked : Asked (step s e)
  unfolding step
  step_asked = concluded_asked (judged s e.kind) (done_is (judged s e.kind) refl)

-- ---- every run

runs_asked : (earlier : List Event) (past : Past) (s : State) → IsAsked (CausedBy past) s → IsSettled s → (e : Event)
    → CopiesAreAsked (past_after past s earlier) (record { before = state_after s earlier; event = e })
    (outcome_of (step (state_after s earlier) e))
unfolding past_after state_after ran
runs_asked [] past s f ready e = (step_asked past s e f ready).copies
runs_asked (x ∷ xs) past s f ready e =
    runs_asked xs (happened s x ∷ past) (step s x).state (step_asked past s x f ready).rows
    (step_is_settled s x ready) e

outcomes_asked : (events : List Event) (past : Past) (s : State) → IsAsked (CausedBy past) s → IsSettled s
    → OutcomesAreAsked past s events (run s events)
unfolding run ran
outcomes_asked [] past s f ready = tt
outcomes_asked (x ∷ xs) past s f ready = (
  (step_asked past s x f ready).copies,
  outcomes_asked xs (happened s x ∷ past) (step s x).state (step_asked past s x f ready).rows
      (step_is_settled s x ready),
)

pub opening_asked : (c : Config) → IsAsked (CausedBy []) (opening c)
unfolding opening
opening_asked c = grind arith

pub nothing_flows_unasked : NothingFlowsUnasked
nothing_flows_unasked c earlier e accepted = search (rules, runs_asked, opening_asked, opening_is_settled)

pub run_is_asked : RunIsAsked
run_is_asked c events accepted = outcomes_asked events [] (opening c) (opening_asked c) (opening_is_settled c accepted)
