-- What a call sends is asked for: from what is said of its answer, its packets and its state.
use Rattle.std.{proofs.{Common.{◌≡◌, ℕ, Bool, List, [], ◌∷◌, ◌++◌, Option, Some, None, Result, Ok, Err, length, true, refl, sym, ap, subst, ◌∙◌}, lemmas.List.append_cancel_left}, specs.Prelude.{IfOk, IfSome, OnOk}}
use Rattle.pim_ip.{specs.declared.{fault.Fault.Fault, refusal.Refusal.Refusal}}
use Rattle.pim_types.{specs.declared.{config.Config.Config, event.Event.Event, outcome.{Emission.Emission, Outcome.Outcome, Verdict.Verdict}}}
use Rattle.pim_model.{specs.{Cause.CopiesAreAsked, Limits.config_test, State.{State, iface_count, opening}, Step.{outcome_of, step}}}
use Rattle.law_plane.{specs.Keeping.keep}
use Rattle.law_states.{specs.{Reloading.reload, Placing.{Places, are_places, reload_by}, History.{Given, past_given, state_given}}, proofs.{Asked.call_is_asked, Histories.calls_lead_on}}
use Rattle.pim_router.{specs.{Asked.{LeadsOn, SentIsAsked}, Standing.{Shown, Standing, beginning, standing, with_state}, Stepped.{PutUnder, Stepped}}}

pub step_asked : (s : State) (e : Event) (answer : Result Verdict Refusal) (sent : List Emission)
    → answer ≡ (step s e).answer → sent ≡ (step s e).emissions → SentIsAsked s e answer sent (step s e).copies
step_asked s e answer sent is are c before led =
    let told : outcome_of (step s e) ≡ record { answer = answer; emissions = sent; copies = (step s e).copies } =
    λ i. record { answer = sym is i; emissions = sym are i; copies = (step s e).copies } in
    subst (λ (o : Outcome). CopiesAreAsked (past_given [] (opening c) before) (record { before = s; event = e }) o) told
    (call_is_asked c before s e led)

pub asked_by : (was : Option Standing) (now : Shown) (r : Result (Result Verdict Refusal) Fault) (old new : List Emission) (e : Event)
    → IfSome was (λ r'. IfOk r (λ answer. Stepped r'.state e old answer now new))
    → IfSome was (λ r'. IfOk r (λ answer. IfSome now.standing (λ after. (sent : List Emission) → new ≡ old ++ sent
    → SentIsAsked r'.state e answer sent after.copies)))
asked_by None now r old new e stepped = tt
asked_by (Some r') now (Err f) old new e stepped = tt
asked_by (Some r') now (Ok answer) old new e stepped =
    subst (λ (o : Option Standing). IfSome o (λ after. (more : List Emission) → new ≡ old ++ more
    → SentIsAsked r'.state e answer more after.copies)) (sym stepped.took.state)
    (λ more is. step_asked r'.state e answer more stepped.took.answer
    (append_cancel_left old more (step r'.state e).emissions (sym is ∙ stepped.sent)))

-- ---- it leads on

pub step_leads : (s : State) (e : Event) → LeadsOn s (Given.Happening e) (step s e).state
unfolding state_given
step_leads s e c before led = calls_lead_on c before (Given.Happening e ∷ []) s led tt

keep_leads : (s : State) (g src m : ℕ) → LeadsOn s (Given.Kept g src m) (keep s g src m)
unfolding state_given
keep_leads s g src m c before led = calls_lead_on c before (Given.Kept g src m ∷ []) s led tt

reload_leads : (s : State) (d : Config) (w : ℕ) → config_test d ≡ Ok tt → LeadsOn s (Given.Reload d w) (reload s d w).0
unfolding state_given
reload_leads s d w accepted c before led = calls_lead_on c before (Given.Reload d w ∷ []) s led (accepted, tt)

pub leads_now : (s : State) (one : Given) (now : Option Standing) (t : Standing) → now ≡ Some t → LeadsOn s one t.state
    → IfSome now (λ after. LeadsOn s one after.state)
leads_now s one now t is leads = subst (λ (o : Option Standing). IfSome o (λ after. LeadsOn s one after.state)) (sym is) leads

pub led_by : (was : Option Standing) (now : Shown) (r : Result (Result Verdict Refusal) Fault) (old new : List Emission) (e : Event)
    → IfSome was (λ r'. IfOk r (λ answer. Stepped r'.state e old answer now new))
    → IfSome was (λ r'. OnOk r (IfSome now.standing (λ after. LeadsOn r'.state (Given.Happening e) after.state)))
led_by None now r old new e stepped = tt
led_by (Some r') now (Err f) old new e stepped = tt
led_by (Some r') now (Ok answer) old new e stepped =
    leads_now r'.state (Given.Happening e) now.standing (standing (step r'.state e)) stepped.took.state (step_leads r'.state e)

pub kept_by : (was now : Shown) (r : Result Bool Fault) (g src m : ℕ)
    → IfSome was.standing (λ r'. OnOk r (now ≡ with_state was r' (keep r'.state g src m)))
    → IfSome was.standing (λ r'. OnOk r (IfSome now.standing (λ after. LeadsOn r'.state (Given.Kept g src m) after.state)))
kept_by was now r g src m = go was.standing refl
  where
    go : (o : Option Standing) → was.standing ≡ o → IfSome o (λ r'. OnOk r (now ≡ with_state was r' (keep r'.state g src m)))
        → IfSome o (λ r'. OnOk r (IfSome now.standing (λ after. LeadsOn r'.state (Given.Kept g src m) after.state)))
    go None is f = tt
    go (Some r') is f = by_result r f
      where
        by_result : (r : Result Bool Fault) → OnOk r (now ≡ with_state was r' (keep r'.state g src m))
            → OnOk r (IfSome now.standing (λ after. LeadsOn r'.state (Given.Kept g src m) after.state))
        by_result (Err f) e = tt
        by_result (Ok b) e =
            leads_now r'.state (Given.Kept g src m) now.standing (record r' { state = keep r'.state g src m })
            (ap (λ (x : Shown). x.standing) e) (keep_leads r'.state g src m)

pub reloaded_by : (was : Option Standing) (now : Shown) (r : Result (Result (Unit {0}) Refusal) Fault) (d : Config) (w : ℕ)
    → IfOk r (λ answer. OnOk answer (config_test d ≡ Ok tt))
    → IfSome was (λ r'. IfOk r (λ answer. OnOk answer (PutUnder r'.state (reload r'.state d w).0 now)))
    → IfSome was (λ r'. IfOk r (λ answer. OnOk answer
    (IfSome now.standing (λ after. LeadsOn r'.state (Given.Reload d w) after.state))))
reloaded_by None now r d w accepted put = tt
reloaded_by (Some r') now (Err f) d w accepted put = tt
reloaded_by (Some r') now (Ok (Err refusal)) d w accepted put = tt
reloaded_by (Some r') now (Ok (Ok done)) d w accepted put =
    leads_now r'.state (Given.Reload d w) now.standing (beginning (reload r'.state d w).0) put.state
    (reload_leads r'.state d w accepted)

placed_leads : (s : State) (m : Places) (d : Config) (w : ℕ) → config_test d ≡ Ok tt
    → are_places (iface_count s) (length d.interfaces) m ≡ true → LeadsOn s (Given.Placed m d w) (reload_by s m d w).0
unfolding state_given
placed_leads s m d w accepted fit c before led =
    calls_lead_on c before (Given.Placed m d w ∷ []) s led (accepted, fit, tt)

pub placed_by : (was : Option Standing) (now : Shown) (r : Result (Result (Unit {0}) Refusal) Fault) (m : Places) (d : Config) (w : ℕ)
    → IfOk r (λ answer. OnOk answer (config_test d ≡ Ok tt))
    → IfSome was (λ r'. IfOk r (λ answer. OnOk answer (are_places (iface_count r'.state) (length d.interfaces) m ≡ true)))
    → IfSome was (λ r'. IfOk r (λ answer. OnOk answer (PutUnder r'.state (reload_by r'.state m d w).0 now)))
    → IfSome was (λ r'. IfOk r (λ answer. OnOk answer
    (IfSome now.standing (λ after. LeadsOn r'.state (Given.Placed m d w) after.state))))
placed_by None now r m d w accepted fit put = tt
placed_by (Some r') now (Err f) m d w accepted fit put = tt
placed_by (Some r') now (Ok (Err refusal)) m d w accepted fit put = tt
placed_by (Some r') now (Ok (Ok done)) m d w accepted fit put =
    leads_now r'.state (Given.Placed m d w) now.standing (beginning (reload_by r'.state m d w).0) put.state
    (placed_leads r'.state m d w accepted fit)
