-- The router behind the front is that of the specification, fed by what the front gives it.
use Rattle.std.{proofs.{Common.{◌≡◌, List, [], ◌∷◌, Result, Ok, Err, refl, ap}, lemmas.List.append-nil}}
use Rattle.pim_ip.{specs.{Ipv4.{Packet, ipv4_reading}, declared.refusal.Refusal.Refusal}}
use Rattle.pim_types.{specs.declared.{event.{Event.Event, EventKind.EventKind}, outcome.{Emission.Emission, Outcome.Outcome}}}
use Rattle.pim_model.{specs.{State.State, Step.{outcome_of, ran, run, state_after, step}}}
use Rattle.pim_anycast.{specs.{Announced.{is_announced, is_local, local_keys}, Joined.{event_given, events_given, joined, joined_step, kind_given, outcome_with, outcomes_with, packet_announced, sent_after, sent_before}, Passed.{bytes_given, copies_of}, declared.{front.Passed.Passed, set.RpSet.RpSet}}, proofs.Unset.{bytes_same, none_due, none_new}}

pub joined_is_run : (sets : List RpSet) (s : State) (es : List Event)
    → ((joined sets s es).0 ≡ outcomes_with sets s es (run s (events_given sets s es)))
    × ((joined sets s es).1 ≡ state_after s (events_given sets s es))
unfolding joined joined_step events_given run state_after ran outcomes_with
joined_is_run sets s [] = (refl, refl)
joined_is_run sets s (e ∷ es) =
    let later = joined_is_run sets (joined_step sets s e).1 es in
    (ap (λ (os : List Outcome). (joined_step sets s e).0 ∷ os) later.0, later.1)

-- ---- without a set

pub kind_same : (s : State) (kind : EventKind) → kind_given [] s kind ≡ kind
unfolding kind_given
kind_same s (EventKind.Unicast bytes) = ap (λ (x : Passed). EventKind.Unicast (bytes_given x bytes)) (bytes_same s.ranges bytes)
kind_same s (EventKind.Frame i bytes) = refl
kind_same s (EventKind.Advance moment) = refl
kind_same s (EventKind.Up i) = refl
kind_same s (EventKind.Down i) = refl
kind_same s (EventKind.Routes routes) = refl
kind_same s (EventKind.Rps rps) = refl
kind_same s (EventKind.RpCandidates candidates) = refl

pub none_before : (s : State) (kind : EventKind) → sent_before [] s kind ≡ []
none_before s (EventKind.Unicast bytes) = ap copies_of (bytes_same s.ranges bytes)
none_before s (EventKind.Frame i bytes) = refl
none_before s (EventKind.Advance moment) = refl
none_before s (EventKind.Up i) = refl
none_before s (EventKind.Down i) = refl
none_before s (EventKind.Routes routes) = refl
none_before s (EventKind.Rps rps) = refl
none_before s (EventKind.RpCandidates candidates) = refl

pub none_after : (s t : State) (kind : EventKind) → sent_after [] s t kind ≡ []
none_after s t (EventKind.Unicast bytes) = refl
none_after s t (EventKind.Frame i bytes) = go (ipv4_reading bytes)
  where
    go : (r : Result Packet Refusal) → packet_announced [] s t r ≡ []
    go (Ok p) =
        none_new t.ranges (is_announced [] s.ranges (is_local s p.destination p.source) p.destination)
        (is_local t p.destination p.source) p.destination p.source
    go (Err refusal) = refl
none_after s t (EventKind.Advance moment) = none_due t.ranges (local_keys t) s.present t.present
none_after s t (EventKind.Up i) = refl
none_after s t (EventKind.Down i) = refl
none_after s t (EventKind.Routes routes) = refl
none_after s t (EventKind.Rps rps) = refl
none_after s t (EventKind.RpCandidates candidates) = refl

outcome_same : (s t : State) (kind : EventKind) (o : Outcome) → outcome_with [] s t kind o ≡ o
unfolding outcome_with
outcome_same s t kind o =
    rw (none_before s kind, none_after s t kind) (ap (λ (xs : List Emission). record o { emissions = xs }) (append-nil o.emissions))

step_same : (s : State) (e : Event)
    → joined_step [] s e ≡ (let both : Outcome × State = (outcome_of (step s e), (step s e).state) in both)
unfolding joined_step event_given
step_same s e =
    rw (kind_same s e.kind)
    (ap (λ (o : Outcome). let both : Outcome × State = (o, (step s e).state) in both)
    (outcome_same s (step s e).state e.kind (outcome_of (step s e))))

pub without_setting : (s : State) (es : List Event)
    → joined [] s es ≡ (let both : List Outcome × State = (run s es, state_after s es) in both)
unfolding joined run state_after ran
without_setting s [] = refl
without_setting s (e ∷ es) =
    rw (step_same s e)
    (ap (λ (x : List Outcome × State). let both : List Outcome × State = (outcome_of (step s e) ∷ x.0, x.1) in both)
    (without_setting (step s e).state es))
