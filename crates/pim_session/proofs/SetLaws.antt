-- A session's machine with sets of RPs that share an address, and without.
use Rattle.std.proofs.{Common.{◌≡◌, ap, refl, List, [], ◌∷◌, Option}, lemmas.List.append-nil}
use Rattle.pim_types.{specs.declared.{event.{Event.Event, EventKind.EventKind}, outcome.{Emission.Emission, Outcome.Outcome}}}
use Rattle.pim_model.specs.{State.State, Step.{Answered, step}}
use Rattle.pim_anycast.{specs.{Joined.{event_given, joined, joined_step, outcome_with}, declared.set.RpSet.RpSet}, proofs.JoinedLaws.{kind_same, none_after, none_before}}
use Rattle.pim_session.specs.{Front.{Front, emissions_leaving, front_after, given}, Laws.{Fronted, Served, SharedSessionIsJoined, SharedSessionIsRun, WithoutSetsNothingChanges, events_given, front_run, front_step, outcomes_beside, served, session_run, session_step}, Shared.{front_behind, given_behind, left_behind}}

-- ---- without sets

left_same : (front : Option Front) (s t : State) (kind : EventKind) (sent : List Emission)
    → left_behind [] front s t kind sent ≡ emissions_leaving front sent
unfolding left_behind
left_same front s t kind sent =
    rw (none_before s kind, none_after s t kind) (append-nil (emissions_leaving front sent))

abbrev step_served : List RpSet → Outcome × Fronted → Outcome × Served
step_served sets r = (r.0, served sets r.1)

step_same : (x : Fronted) (e : Event) → session_step (served [] x) e ≡ step_served [] (front_step x e)
unfolding session_step front_step given_behind front_behind event_given
step_same x e =
    rw (kind_same x.state e.kind)
    (ap (λ (xs : List Emission). let a : Answered = step x.state (given x.front x.state e) in
    let o : Outcome = record { answer = a.answer; emissions = xs; copies = a.copies } in
    let y : Served = record { sets = []; front = front_after x.front x.state e; state = a.state } in
    let r : Outcome × Served = (o, y) in r)
    (left_same x.front x.state (step x.state (given x.front x.state e)).state e.kind (step x.state (given x.front x.state e)).emissions))

pub without_sets : WithoutSetsNothingChanges
unfolding session_run front_run
without_sets x [] = refl
without_sets x (e ∷ es) =
    rw (step_same x e)
    (ap (λ (p : List Outcome × Served). let q : List Outcome × Served = ((front_step x e).0 ∷ p.0, p.1) in q)
    (without_sets (front_step x e).1 es))

-- ---- with sets

pub shared_session_is_joined : SharedSessionIsJoined
unfolding session_run session_step given_behind front_behind left_behind given front_after emissions_leaving joined joined_step outcome_with
shared_session_is_joined sets s [] = refl
shared_session_is_joined sets s (e ∷ es) =
    ap (λ (p : List Outcome × Served). let q : List Outcome × Served = ((joined_step sets s e).0 ∷ p.0, p.1) in q)
    (shared_session_is_joined sets (joined_step sets s e).1 es)

pub shared_session_is_run : SharedSessionIsRun
unfolding session_run session_step given_behind front_behind left_behind front_run front_step events_given outcomes_beside outcome_with
shared_session_is_run sets x [] = (refl, refl)
shared_session_is_run sets x (e ∷ es) =
    let later = shared_session_is_run sets (front_step x (event_given sets x.state e)).1 es in
    (ap (λ (os : List Outcome). (session_step (served sets x) e).0 ∷ os) later.0, later.1)
