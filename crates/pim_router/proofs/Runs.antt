-- Runs, event after event.
use Rattle.std.{proofs.{Common.{◌≡◌, ℕ, Bool, false, Some, suc, ◌+◌, ◌*◌, ◌<◌, ◌≤◌, List, [], ◌∷◌, ◌++◌, length, drop, get_or, refl, ap, sym, subst, ◌∙◌, append_assoc, append-nil, add-one}, Math.{ListN.drop_of_length-le, Seq.drop-cons}}, specs.Prelude.{IfSome, if◌then◌else◌}}
use Rattle.pim_types.{specs.declared.{event.Event.Event, fact.Key.Key, outcome.Outcome.Outcome, config.Config.Config}}
use Rattle.law_events.{specs.Rest.IsAtRest}
use Rattle.law_streams.{specs.Bounded.counted_beside_asserts}
use Rattle.pim_event.{specs.{Costs.IsLastCheap, Disturbing.IsLastDisturbed, Listing.IsLastListed, Replacing.Disturbance, Staying.LastOffersStay}}
use Rattle.pim_model.{specs.{Cause.OutcomesAreAsked, Full.counted, State.{State, opening}, Step.{outcome_of, ran, run, state_after, step}}}
use Rattle.law_states.{specs.History.{Given, IsLedTo, greatest_count, greatest_limit, past_given}, proofs.{Asked.nothing_flows_unasked_over_reloads, Counts.counted_stay_within_the_greatest, Limits.facts_stay_within_the_greatest}}
use Rattle.pim_router.{specs.{Standing.{Shown, Standing, nothing_shown}, Stepped.TellsLast}, proofs.Shown.stands}

-- what was told with what is left is all of it, and the router is at rest
pub record Runs (first : State) (events : List Event) (s : State) (told : List Outcome)
    (left : List Event) : Type 0 where
  pub told_is : told ++ run s left ≡ run first events
  pub rest_is : state_after s left ≡ state_after first events
  pub rest : IsAtRest s

module _ (first : State) (events : List Event) where
  next : (s n : State) (told more : List Outcome) (e : Event) (left : List Event) → IsAtRest n
      → n ≡ (step s e).state
      → more ≡ told ++ outcome_of (step s e) ∷ [] → Runs first events s told (e ∷ left)
      → Runs first events n more left
  unfolding run state_after ran
  next s n told more e left rest state pushed runs = record {
    told_is = ap (λ (os : List Outcome). os ++ run n left) pushed
        ∙ append_assoc told (outcome_of (step s e) ∷ []) (run n left)
        ∙ ap (λ (x : State). told ++ outcome_of (step s e) ∷ run x left) state ∙ runs.told_is;
    rest_is = ap (λ (x : State). state_after x left) state ∙ runs.rest_is;
    rest = rest;
  }

  pub runs_next : (i : ℕ) (s n : State) (told more : List Outcome) (e : Event) → i < length events
      → e ≡ get_or events i e
      → IsAtRest n → n ≡ (step s e).state → more ≡ told ++ outcome_of (step s e) ∷ []
      → Runs first events s told (drop i events) → Runs first events n more (drop (i + 1) events)
  runs_next i s n told more e lt is rest state pushed runs =
      let here : drop i events ≡ e ∷ drop (i + 1) events =
      drop-cons events i e lt ∙ ap (λ (x : Event). x ∷ drop (suc i) events) (sym is)
      ∙ ap (λ (n : ℕ). e ∷ drop n events) (sym (add-one i)) in
      next s n told more e (drop (i + 1) events) rest state pushed
      (subst (λ (es : List Event). Runs first events s told es) here runs)

  pub runs_begin : (told : List Outcome) → told ≡ [] → IsAtRest first → Runs first events first told events
  runs_begin told none rest = record {
    told_is = ap (λ (os : List Outcome). os ++ run first events) none;
    rest_is = refl;
    rest = rest;
  }

  ended : (s : State) (told : List Outcome) → Runs first events s told []
      → (told ≡ run first events) × (s ≡ state_after first events)
  unfolding run state_after ran
  ended s told runs = (sym (append-nil told) ∙ runs.told_is, runs.rest_is)

  pub runs_end : (i : ℕ) (s : State) (told : List Outcome) → length events ≤ i
      → Runs first events s told (drop i events)
      → (told ≡ run first events) × (s ≡ state_after first events)
  runs_end i s told le runs =
      ended s told (subst (λ (es : List Event). Runs first events s told es) (drop_of_length-le events le) runs)

-- the outcomes of a run are asked for, whatever events and reloads came before it
pub is_asked : (shown : Shown) (failed : Bool) (r : Standing) (probes touched : ℕ) (changed : List Key) (disturbed : Disturbance)
    (events : List Event) (outcomes : List Outcome)
    → (if failed then nothing_shown
    else record { standing = Some r; probes = probes; touched = touched; changed = changed; disturbed = disturbed }) ≡ shown
    → failed ≡ false → outcomes ≡ run r.state events
    → IfSome shown.standing (λ x. (c : Config) (before : List Given) → IsLedTo c before x.state
    → OutcomesAreAsked (past_given [] (opening c) before) x.state events outcomes)
is_asked shown failed r probes touched changed disturbed events outcomes shows works are =
    stands shown failed r probes touched changed disturbed shows works
    (λ (s : State). (c : Config) (before : List Given) → IsLedTo c before s
    → OutcomesAreAsked (past_given [] (opening c) before) s events outcomes)
    (λ c before led. subst (λ (os : List Outcome). OutcomesAreAsked (past_given [] (opening c) before) r.state events os) (sym are)
    (nothing_flows_unasked_over_reloads c before r.state events led))

tells_last : (s : State) (events : List Event) (left : Shown)
    → IsLastCheap s events left.probes left.touched → IsLastListed s events left.changed
    → IsLastDisturbed s events left.disturbed → LastOffersStay s events left.disturbed → TellsLast s events left
tells_last s [] left cheap lists disturbs stays = tt
tells_last s (e ∷ []) left cheap lists disturbs stays = record {
  cheap = cheap;
  changed = lists;
  disturbed = disturbs;
  stays = stays;
}
tells_last s (e ∷ f ∷ es) left cheap lists disturbs stays =
    tells_last (step s e).state (f ∷ es) left cheap lists disturbs stays

-- a router tells of the last event of a run
pub is_told : (shown : Shown) (failed : Bool) (r : Standing) (probes touched : ℕ) (changed : List Key) (disturbed : Disturbance)
    (events : List Event) (left : Shown)
    → (if failed then nothing_shown
    else record { standing = Some r; probes = probes; touched = touched; changed = changed; disturbed = disturbed }) ≡ shown
    → failed ≡ false → IsLastCheap r.state events left.probes left.touched → IsLastListed r.state events left.changed
    → IsLastDisturbed r.state events left.disturbed → LastOffersStay r.state events left.disturbed
    → IfSome shown.standing (λ x. TellsLast x.state events left)
is_told shown failed r probes touched changed disturbed events left shows works cheap lists disturbs stays =
    stands shown failed r probes touched changed disturbed shows works (λ (s : State). TellsLast s events left)
    (tells_last r.state events left cheap lists disturbs stays)

-- after a run the greatest limit bounds the facts, whatever events and reloads came before it
pub is_within : (shown : Shown) (failed : Bool) (r : Standing) (probes touched : ℕ) (changed : List Key) (disturbed : Disturbance)
    (events : List Event) (after : State)
    → (if failed then nothing_shown
    else record { standing = Some r; probes = probes; touched = touched; changed = changed; disturbed = disturbed }) ≡ shown
    → failed ≡ false → after ≡ state_after r.state events
    → IfSome shown.standing (λ x. (c : Config) (before : List Given) → IsLedTo c before x.state
    → counted_beside_asserts after ≤ greatest_limit c.limit before)
is_within shown failed r probes touched changed disturbed events after shows works are =
    stands shown failed r probes touched changed disturbed shows works
    (λ (s : State). (c : Config) (before : List Given) → IsLedTo c before s
    → counted_beside_asserts after ≤ greatest_limit c.limit before)
    (λ c before led. subst (λ (s : State). counted_beside_asserts s ≤ greatest_limit c.limit before) (sym are)
    (facts_stay_within_the_greatest c before r.state events led))

-- after a run the greatest limit bounds all facts that count, by the most interfaces that were configured
pub is_bounded : (shown : Shown) (failed : Bool) (r : Standing) (probes touched : ℕ) (changed : List Key) (disturbed : Disturbance)
    (events : List Event) (after : State)
    → (if failed then nothing_shown
    else record { standing = Some r; probes = probes; touched = touched; changed = changed; disturbed = disturbed }) ≡ shown
    → failed ≡ false → after ≡ state_after r.state events
    → IfSome shown.standing (λ x. (c : Config) (before : List Given) → IsLedTo c before x.state
    → counted after ≤ greatest_limit c.limit before * (greatest_count (length c.interfaces) before + 1))
is_bounded shown failed r probes touched changed disturbed events after shows works are =
    stands shown failed r probes touched changed disturbed shows works
    (λ (s : State). (c : Config) (before : List Given) → IsLedTo c before s
    → counted after ≤ greatest_limit c.limit before * (greatest_count (length c.interfaces) before + 1))
    (λ c before led. subst (λ (s : State). counted s ≤ greatest_limit c.limit before * (greatest_count (length c.interfaces) before + 1))
    (sym are) (counted_stay_within_the_greatest c before r.state events led))
