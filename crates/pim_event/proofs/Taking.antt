-- What was accepted, where there is room for it.
use Rattle.std.{proofs.Common.{◌≡◌, ℕ, Bool, true, false, not, length, Result, Ok, Err, IsOk, IsTrue, List, [], ◌++◌, OnOk, refl, ap, subst, sym, ◌∙◌}}
use Rattle.pim_ip.{specs.declared.refusal.Refusal.Refusal}
use Rattle.pim_types.{specs.declared.{outcome.{Emission.Emission, Outcome.Outcome, Stop.Stop, Verdict.Verdict}, config.{Route.Route, RpTable.RpTable}, event.{Event.Event, EventKind.EventKind}}}
use Rattle.pim_model.{specs.{declared.accepted.Accepted.Accepted, Judging.{Judged, judged, refuse_if, routes_judged, candidates_judged, rps_judged, ◌>>◌}, Limits.{are_routes, are_rps, are_candidates}, Messages.Message, State.State, Full.is_full, Step.{Answered, Change, change, concluded, done, outcome_of, advanced, step, stopped, taken, taken_unless_full}, Sure.{is_early, needs_no_memory}, Unicast.{with_candidates, with_ranges}}}
use Rattle.pim_state.{specs.{Turns.Taking, declared.touched.Touched.Touched}}
use Rattle.pim_intake.{specs.Memory.is_tested_in_memory}
use Rattle.pim_views.{specs.{Openings.opening_of, declared.opening.GroupOpening.GroupOpening}}
use Rattle.pim_store.{specs.PimTables.{AreKeyed, pim_tables}}
use Rattle.law_events.{specs.{Locality.IsQuiet as IsQuietState, Rest.IsAtRest}, proofs.Rest.step_is_at_rest}
use Rattle.pim_data.{specs.declared.leaving.Leaving.Leaving}
use Rattle.pim_fanout.{specs.Contains.Contains}
use Rattle.pim_settling.{specs.Settling.settled_by, proofs.Settling.settled_as_opened}
use Rattle.pim_event.{specs.{Sending.Sends, Stops.stop_outcome}}

module _ (s : State) (w : ℕ) where
  -- where no time passes
  pub taken_is_done : (a : Accepted) → ((m : ℕ) → ¬ (a ≡ Accepted.Advance m)) → taken s w a ≡ done s w (change s w a)
  unfolding taken
  taken_is_done (Accepted.Up i) timeless = refl
  taken_is_done (Accepted.Down i) timeless = refl
  taken_is_done (Accepted.Hello i from h) timeless = refl
  taken_is_done (Accepted.JoinPruneToMe i m) timeless = refl
  taken_is_done (Accepted.Advance moment) timeless = absurd (timeless moment refl)
  taken_is_done (Accepted.Routes routes) timeless = refl
  taken_is_done (Accepted.Rps ranges) timeless = refl
  taken_is_done (Accepted.JoinPruneSeen i m) timeless = refl
  taken_is_done (Accepted.Assert i from a) timeless = refl
  taken_is_done (Accepted.Query i from q) timeless = refl
  taken_is_done (Accepted.Report i records) timeless = refl
  taken_is_done (Accepted.Data i packet) timeless = refl
  taken_is_done (Accepted.Register packet r) timeless = refl
  taken_is_done (Accepted.RegisterStop from r) timeless = refl

-- what is answered where this much is sent, of it these copies and Registers
abbrev pub answered : State × List Emission → List Emission → List Emission → Answered
answered sent copies registered =
    record { answer = Ok Verdict.Done; emissions = sent.1 ++ copies ++ registered; copies = length copies; state = sent.0 }

module _ (s : State) (w : ℕ) (a : Accepted) (touched : Touched) (opening : List GroupOpening) where
  -- of the change, settled by what was opened
  as_opened : (t : State) (messages : List Message) (copies registered : List Emission) → IsQuietState s
      → AreKeyed (pim_tables t) → ((m : ℕ) → ¬ (a ≡ Accepted.Advance m)) → Contains touched s (change s w a).state
      → opening ≡ opening_of s touched → t ≡ (change s w a).state → messages ≡ (change s w a).messages
      → copies ≡ (change s w a).copies → registered ≡ (change s w a).registered
      → answered (settled_by opening t messages w) copies registered ≡ taken s w a
  unfolding done
  as_opened t messages copies registered rests keyed timeless covers opens e f g h =
      let c : Change = change s w a in
      let o : List GroupOpening = opening_of s touched in
      ap (λ (vs : List GroupOpening). answered (settled_by vs t messages w) copies registered) opens
      ∙ ap (λ (x : State). answered (settled_by o x messages w) copies registered) e
      ∙ ap (λ (ms : List Message). answered (settled_by o c.state ms w) copies registered) f
      ∙ ap (λ (es : List Emission). answered (settled_by o c.state c.messages w) es registered) g
      ∙ ap (λ (es : List Emission). answered (settled_by o c.state c.messages w) c.copies es) h
      ∙ ap (λ (sent : State × List Emission). answered sent c.copies c.registered)
      (sym (settled_as_opened s c.state rests (subst (λ (x : State). AreKeyed (pim_tables x)) e keyed)
      c.messages w touched covers))
      ∙ sym (taken_is_done s w a timeless)

-- what is taken in its turn: the turn of the opening, and that after the change
pub taken_in_turn : (s t : State) (a : Accepted) (touched : Touched) (opening : List GroupOpening) (leaving : Leaving)
    (first opened changing : Taking) → IsQuietState s → AreKeyed (pim_tables t)
    → ((m : ℕ) → ¬ (a ≡ Accepted.Advance m)) → ((w : ℕ) → Contains touched s (change s w a).state)
    → opening ≡ opening_of s touched → first.messages ≡ [] → opened ≡ first
    → Sends leaving t opened changing (change s opened.draw a)
    → answered (settled_by opening t changing.messages changing.draw) leaving.copies.items leaving.registered.items
    ≡ taken s first.draw a
taken_in_turn s t a touched opening leaving first opened changing rests keyed timeless covers opens none silent sends =
    let drawn : opened.draw ≡ first.draw = ap (λ (x : Taking). x.draw) silent in
    let after : changing.draw ≡ first.draw = ap (λ (x : Taking). x.draw) sends.messages ∙ drawn in
    let sent : changing.messages ≡ (change s first.draw a).messages =
    ap (λ (x : Taking). x.messages) sends.messages
    ∙ ap (λ (x : Taking). x.messages ++ (change s x.draw a).messages) silent
    ∙ ap (λ (ms : List Message). ms ++ (change s first.draw a).messages) none in
    ap (λ (w : ℕ). answered (settled_by opening t changing.messages w) leaving.copies.items leaving.registered.items) after
    ∙ as_opened s first.draw a touched opening t changing.messages leaving.copies.items leaving.registered.items
    rests keyed timeless (covers first.draw) opens
    (sends.state_is ∙ ap (λ (w : ℕ). (change s w a).state) drawn) sent
    (sends.copies ∙ ap (λ (w : ℕ). (change s w a).copies) drawn)
    (sends.registered ∙ ap (λ (w : ℕ). (change s w a).registered) drawn)

-- the state after the change alone
pub changed_in_turn : (s t : State) (a : Accepted) (leaving : Leaving) (first opened changing : Taking) → opened ≡ first
    → Sends leaving t opened changing (change s opened.draw a) → t ≡ (change s first.draw a).state
changed_in_turn s t a leaving first opened changing silent sends =
    sends.state_is ∙ ap (λ (x : Taking). (change s x.draw a).state) silent

-- what is told: the packets of what follows, then the copies, then the Register
pub outcome_told : (sent : State × List Emission) (copies registered emissions both all shown : List Emission) (count : ℕ)
    → shown ≡ all → all ≡ both ++ registered → both ≡ emissions ++ copies → emissions ≡ sent.1 → count ≡ length copies
    → (let o : Outcome = record { answer = Ok Verdict.Done; emissions = shown; copies = count } in o)
    ≡ outcome_of (answered sent copies registered)
outcome_told sent copies registered emissions both all shown count e f g h k =
    ap (λ (es : List Emission). let o : Outcome = record { answer = Ok Verdict.Done; emissions = es; copies = count } in o)
    (e ∙ f ∙ ap (λ (es : List Emission). es ++ registered) (g ∙ ap (λ (es : List Emission). es ++ copies) h))
    ∙ ap (λ (n : ℕ). let o : Outcome = record { answer = Ok Verdict.Done; emissions = sent.1 ++ copies ++ registered; copies = n } in o)
    k

-- what is taken, or refused for want of room, may want memory
-- an event takes its turn where it is accepted, and else stops
pub in_turn : (s : State) (e : Event) (a : Accepted) (w : ℕ) → judged s e.kind ≡ Ok a → w ≡ e.draw
    → step s e ≡ taken_unless_full s w a
unfolding step
in_turn s e a w heard drawn =
    ap (λ (j : Judged). concluded s (taken_unless_full s e.draw) j) heard
    ∙ ap (λ (n : ℕ). taken_unless_full s n a) (sym drawn)

at_stop : (s : State) (e : Event) (stop : Stop) → judged s e.kind ≡ Err stop → step s e ≡ stopped s stop
unfolding step
at_stop s e stop heard = ap (λ (j : Judged). concluded s (taken_unless_full s e.draw) j) heard

pub stop_told : (s : State) (e : Event) (stop : Stop) → judged s e.kind ≡ Err stop → stop_outcome stop ≡ outcome_of (step s e)
stop_told s e (Stop.Refuse refusal) heard = ap outcome_of (sym (at_stop s e (Stop.Refuse refusal) heard))
stop_told s e (Stop.Ignore reason) heard = ap outcome_of (sym (at_stop s e (Stop.Ignore reason) heard))

pub stop_stays : (s : State) (e : Event) (stop : Stop) → judged s e.kind ≡ Err stop → s ≡ (step s e).state
stop_stays s e (Stop.Refuse refusal) heard = ap (λ (x : Answered). x.state) (sym (at_stop s e (Stop.Refuse refusal) heard))
stop_stays s e (Stop.Ignore reason) heard = ap (λ (x : Answered). x.state) (sym (at_stop s e (Stop.Ignore reason) heard))

answered_done : (s : State) (w : ℕ) (a : Accepted) → (taken s w a).answer ≡ Ok Verdict.Done
unfolding taken done advanced
answered_done s w (Accepted.Advance moment) = refl
answered_done s w a = refl

full_or_taken : (s : State) (w : ℕ) (a : Accepted) (full : Bool)
    → needs_no_memory (elim full as
    (λ x. Answered) [ true ↦ stopped s (Stop.Refuse Refusal.Full) | false ↦ taken s w a ]).answer ≡ false
full_or_taken s w a true = refl
full_or_taken s w a false = ap needs_no_memory (answered_done s w a)

wants_memory : {A E : Type 0} (s : State) (w : ℕ) (a : Accepted) (r : Result A E)
    → IsTrue (needs_no_memory (taken_unless_full s w a).answer) → IsOk r
unfolding taken_unless_full
wants_memory s w a r sure = cc (sure, full_or_taken s w a (is_full s a))

-- what was accepted isn't answered surely
pub accepted_unsurely : {A E : Type 0} (s : State) (event : Event) (j : Judged) (a : Accepted) (r : Result A E)
    → j ≡ judged s event.kind → j ≡ Ok a → IsTrue (needs_no_memory (step s event).answer) → IsOk r
unfolding step
accepted_unsurely s event j a r is ok sure =
    wants_memory s event.draw a r
    (subst (λ (x : Judged). IsTrue (needs_no_memory (concluded s (taken_unless_full s event.draw) x).answer))
    (sym is ∙ ok) sure)

-- routes, RP ranges and candidates are tested in memory, and no answer to them is sure
no_routes : (s : State) (w : ℕ) (routes : List Route) (bad : Bool)
    → needs_no_memory
    (concluded s (taken_unless_full s w) (refuse_if bad Refusal.BadRoutes >> Ok (Accepted.Routes routes))).answer ≡ false
unfolding taken_unless_full
no_routes s w routes true = refl
no_routes s w routes false = full_or_taken s w (Accepted.Routes routes) (is_full s (Accepted.Routes routes))

no_ranges : (s : State) (w : ℕ) (ranges : RpTable) (refusal : Refusal) (bad : Bool) → is_early refusal ≡ false
    → needs_no_memory
    (concluded s (taken_unless_full s w) (refuse_if bad refusal >> Ok (Accepted.Rps ranges))).answer ≡ false
unfolding taken_unless_full
no_ranges s w ranges refusal true late = late
no_ranges s w ranges refusal false late = full_or_taken s w (Accepted.Rps ranges) (is_full s (Accepted.Rps ranges))

tested_surely : (s : State) (w : ℕ) (kind : EventKind) (sure : Bool)
    → sure ≡ needs_no_memory (concluded s (taken_unless_full s w) (judged s kind)).answer → sure ≡ true
    → is_tested_in_memory kind ≡ false
unfolding judged routes_judged rps_judged candidates_judged
tested_surely s w (EventKind.Advance moment) sure e t = refl
tested_surely s w (EventKind.Frame i bytes) sure e t = refl
tested_surely s w (EventKind.Unicast bytes) sure e t = refl
tested_surely s w (EventKind.Up i) sure e t = refl
tested_surely s w (EventKind.Down i) sure e t = refl
tested_surely s w (EventKind.Routes routes) sure e t =
    cc (e, t, no_routes s w routes (not (are_routes s.configured routes)))
tested_surely s w (EventKind.Rps ranges) sure e t =
    cc (e, t, no_ranges s w (with_ranges s.ranges ranges) Refusal.BadRps (not (are_rps ranges)) refl)
tested_surely s w (EventKind.RpCandidates candidates) sure e t =
    cc (e, t, no_ranges s w (with_candidates s.ranges candidates) Refusal.BadCandidates (not (are_candidates candidates)) refl)

pub fails_unsurely : {A B E : Type 0} (s : State) (event : Event) (r : Result A E) (q : Result B E) (fault : E)
    → (is_tested_in_memory event.kind ≡ false → IsOk r) → r ≡ Err fault
    → IsTrue (needs_no_memory (step s event).answer) → IsOk q
unfolding step
fails_unsurely s event r q fault ok failed sure =
    cc (
      failed,
      ok (tested_surely s event.draw event.kind
          (needs_no_memory (concluded s (taken_unless_full s event.draw) (judged s event.kind)).answer) refl sure),
    )

-- what is answered surely sends nothing
abbrev pub IsSilent : Answered → Type 0
IsSilent x = needs_no_memory x.answer ≡ true → x.emissions ≡ []

stopped_silently : (s : State) (stop : Stop) → IsSilent (stopped s stop)
stopped_silently s (Stop.Refuse refusal) sure = refl
stopped_silently s (Stop.Ignore reason) sure = refl

taken_silently : (s : State) (w : ℕ) (a : Accepted) → IsSilent (taken s w a)
taken_silently s w a sure = cc (sure, ap needs_no_memory (answered_done s w a))

full_silently : (s : State) (w : ℕ) (a : Accepted) (full : Bool)
    → IsSilent (elim full as (λ x. Answered) [ true ↦ stopped s (Stop.Refuse Refusal.Full) | false ↦ taken s w a ])
full_silently s w a true = stopped_silently s (Stop.Refuse Refusal.Full)
full_silently s w a false = taken_silently s w a

pub concluded_silently : (s : State) (w : ℕ) (j : Judged) → IsSilent (concluded s (taken_unless_full s w) j)
unfolding taken_unless_full
concluded_silently s w (Ok a) = full_silently s w a (is_full s a)
concluded_silently s w (Err stop) = stopped_silently s stop

-- an event leaves the router at rest
pub rests_after : {A E : Type 0} (s t : State) (event : Event) (r : Result A E) → IsAtRest s
    → OnOk r (t ≡ (step s event).state) → OnOk r (IsAtRest t)
rests_after s t event (Ok done) rest state =
    subst (λ (x : State). IsAtRest x) (sym state) (step_is_at_rest s event rest)
rests_after s t event (Err fault) rest state = tt

-- ---- what is taken, where there is room and where there is none

module _ (s : State) (w : ℕ) (a : Accepted) where
  pub with_room : is_full s a ≡ false → taken_unless_full s w a ≡ taken s w a
  unfolding taken_unless_full
  with_room room = rw (room, taken_unless_full) refl

  -- time needs no room
  pub time_is_taken : (moment : ℕ) → a ≡ Accepted.Advance moment → advanced s w moment ≡ taken_unless_full s w a
  unfolding taken_unless_full taken is_full
  time_is_taken moment is =
      subst (λ (x : Accepted). advanced s w moment ≡ taken_unless_full s w x) (sym is) refl

  pub without_room : is_full s a ≡ true → taken_unless_full s w a ≡ stopped s (Stop.Refuse Refusal.Full)
  unfolding taken_unless_full
  without_room full = rw (full, taken_unless_full) refl
