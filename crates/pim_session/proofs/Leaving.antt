-- A session's call, by what is said of its answer, its packets and its state.
use Rattle.std.{proofs.Common.{◌≡◌, ◌∙◌, ℕ, List, Option, Some, None, Result, Ok, refl, sym, ap, subst}, specs.Prelude.IfSome}
use Rattle.pim_ip.{specs.declared.refusal.Refusal.Refusal}
use Rattle.pim_types.{specs.declared.{event.Event.Event, outcome.{Emission.Emission, Verdict.Verdict}}}
use Rattle.pim_model.{specs.{State.State, Step.step}}
use Rattle.igmp_older_saved.{specs.{Reading.held_reading, Text.Held}, proofs.Spelled.held_text_is_read}
use Rattle.law_states.{specs.History.{Given, IsLedTo}}
use Rattle.pim_router.{specs.{Asked.LeadsOn, Standing.{Shown, Standing, beginning, begun, standing}}, proofs.Asked.{leads_now, step_asked, step_leads}}
use Rattle.pim_anycast.{specs.declared.set.RpSet.RpSet}
use Rattle.pim_session.{specs.{Front.Front, Leaving.{GoesOnFrom, LeftIsAsked}, Session.ShownSession, Shared.{Reached, Saw, event_in, leaving, left_in, seen_in, seen_leaving}}}

-- a session that keeps what left of an event shows what its router shows
pub kept_by : (e : Event) (answer : Result Verdict Refusal) (now kept : ShownSession) (before after : Shown) (leaving : List Emission)
    (sets : List RpSet) (front known : Option Front)
    → before ≡ now.router → sets ≡ now.sets → front ≡ now.front → kept.router ≡ after → kept.sent ≡ leaving
    → IfSome before.standing (λ r. Reached sets front r.state e answer after leaving known)
    → IfSome now.router.standing (λ r. Reached now.sets now.front r.state e answer kept.router kept.sent known)
kept_by e answer now kept before after leaving sets front known is_router are_sets is_front keeps sends told =
    subst (λ (x : Shown). IfSome x.standing (λ r. Reached now.sets now.front r.state e answer kept.router kept.sent known)) is_router
    (subst (λ (xs : List RpSet). IfSome before.standing (λ r. Reached xs now.front r.state e answer kept.router kept.sent known)) are_sets
    (subst (λ (f : Option Front). IfSome before.standing (λ r. Reached sets f r.state e answer kept.router kept.sent known)) is_front
    (subst (λ (x : Shown). IfSome before.standing (λ r. Reached sets front r.state e answer x kept.sent known)) (sym keeps)
    (subst (λ (xs : List Emission). IfSome before.standing (λ r. Reached sets front r.state e answer after xs known)) (sym sends) told))))

-- what leaves of an event is asked for
pub asked_by : (x : ShownSession) (e : Event) (was : Option Standing) (answer : Result Verdict Refusal) (shown : Shown)
    (leaving : List Emission) (after : Option Front)
    → IfSome was (λ r. Reached x.sets x.front r.state e answer shown leaving after)
    → IfSome was (λ r. IfSome shown.standing (λ a. LeftIsAsked (left_in x r.state e) r.state (event_in x r.state e) answer leaving a.copies))
unfolding left_in
asked_by x e None answer shown leaving after told = tt
asked_by x e (Some r) answer shown leaving after told =
    let behind : Event = event_in x r.state e in
    subst (λ (o : Option Standing). IfSome o (λ a. LeftIsAsked (left_in x r.state e) r.state behind answer leaving a.copies)) (sym told.took.state)
    (record {
      sent = (step r.state behind).emissions;
      is = told.sent;
      asked = step_asked r.state behind answer (step r.state behind).emissions told.took.answer refl;
    })

-- what leaves of an event
pub sent_in : (x : ShownSession) (e : Event) (was : Option Standing) (answer : Result Verdict Refusal) (shown : Shown)
    (left : List Emission) (after : Option Front)
    → IfSome was (λ r. Reached x.sets x.front r.state e answer shown left after)
    → IfSome was (λ r. left ≡ leaving x r.state e)
unfolding left_in
sent_in x e None answer shown left after told = tt
sent_in x e (Some r) answer shown left after told = told.sent

-- what led to the state before it goes on
pub led_by : (x : ShownSession) (e : Event) (was : Option Standing) (answer : Result Verdict Refusal) (shown : Shown)
    (leaving : List Emission) (after : Option Front)
    → IfSome was (λ r. Reached x.sets x.front r.state e answer shown leaving after)
    → IfSome was (λ r. IfSome shown.standing (λ a. LeadsOn r.state (Given.Happening (event_in x r.state e)) a.state))
led_by x e None answer shown leaving after told = tt
led_by x e (Some r) answer shown leaving after told =
    let behind : Event = event_in x r.state e in
    leads_now r.state (Given.Happening behind) shown.standing (standing (step r.state behind)) told.took.state (step_leads r.state behind)

-- ---- a packet that a data plane saw

pub kept_of : (e : Event) (g src : ℕ) (answer : Result Verdict Refusal) (now kept : ShownSession) (before after : Shown)
    (leaving : List Emission) (sets : List RpSet)
    → before ≡ now.router → sets ≡ now.sets → kept.router ≡ after → kept.sent ≡ leaving
    → IfSome before.standing (λ r. Saw sets r.state e g src answer after leaving)
    → IfSome now.router.standing (λ r. Saw now.sets r.state e g src answer kept.router kept.sent)
kept_of e g src answer now kept before after leaving sets is_router are_sets keeps sends told =
    subst (λ (x : Shown). IfSome x.standing (λ r. Saw now.sets r.state e g src answer kept.router kept.sent)) is_router
    (subst (λ (xs : List RpSet). IfSome before.standing (λ r. Saw xs r.state e g src answer kept.router kept.sent)) are_sets
    (subst (λ (x : Shown). IfSome before.standing (λ r. Saw sets r.state e g src answer x kept.sent)) (sym keeps)
    (subst (λ (xs : List Emission). IfSome before.standing (λ r. Saw sets r.state e g src answer after xs)) (sym sends) told)))

pub asked_of : (x : ShownSession) (e : Event) (g src : ℕ) (was : Option Standing) (answer : Result Verdict Refusal) (shown : Shown)
    (leaving : List Emission)
    → IfSome was (λ r. Saw x.sets r.state e g src answer shown leaving)
    → IfSome was (λ r. IfSome shown.standing (λ a. LeftIsAsked (seen_in x r.state e g src) r.state e answer leaving a.copies))
unfolding seen_in
asked_of x e g src None answer shown leaving told = tt
asked_of x e g src (Some r) answer shown leaving told =
    subst (λ (o : Option Standing). IfSome o (λ a. LeftIsAsked (seen_in x r.state e g src) r.state e answer leaving a.copies)) (sym told.took.state)
    (record {
      sent = (step r.state e).emissions;
      is = told.sent;
      asked = step_asked r.state e answer (step r.state e).emissions told.took.answer refl;
    })

-- what leaves of that event
pub sent_of : (x : ShownSession) (e : Event) (g src : ℕ) (was : Option Standing) (answer : Result Verdict Refusal) (shown : Shown)
    (left : List Emission)
    → IfSome was (λ r. Saw x.sets r.state e g src answer shown left)
    → IfSome was (λ r. left ≡ seen_leaving x r.state e g src)
unfolding seen_in
sent_of x e g src None answer shown left told = tt
sent_of x e g src (Some r) answer shown left told = told.sent

pub led_of : (x : ShownSession) (e : Event) (g src : ℕ) (was : Option Standing) (answer : Result Verdict Refusal) (shown : Shown)
    (leaving : List Emission)
    → IfSome was (λ r. Saw x.sets r.state e g src answer shown leaving)
    → IfSome was (λ r. IfSome shown.standing (λ a. LeadsOn r.state (Given.Happening e) a.state))
led_of x e g src None answer shown leaving told = tt
led_of x e g src (Some r) answer shown leaving told =
    leads_now r.state (Given.Happening e) shown.standing (standing (step r.state e)) told.took.state (step_leads r.state e)

-- a router that is made of bytes
pub goes_on_from : (bytes : List ℕ) (shown : Shown) → ((h : Held) → held_reading bytes ≡ Ok h → shown ≡ begun h.state)
    → IfSome shown.standing (λ r. GoesOnFrom bytes r.state)
goes_on_from bytes shown restored = go shown.standing refl
  where
    same_state : (o : Option Standing) (r t : Standing) → o ≡ Some r → o ≡ Some t → t.state ≡ r.state
    same_state o r t is it = cc

    go : (o : Option Standing) → shown.standing ≡ o → IfSome o (λ r. GoesOnFrom bytes r.state)
    go None is = tt
    go (Some r) is = λ c before h led fits same.
        let made : shown ≡ begun h.state = restored h (ap held_reading same ∙ held_text_is_read h fits) in
        subst (λ (t : State). IsLedTo c before t)
        (same_state shown.standing r (beginning h.state) is (ap (λ (x : Shown). x.standing) made)) led
