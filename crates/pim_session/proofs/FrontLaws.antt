-- A session's machine is the router alone, or the joined machine.
use Rattle.std.{specs.Option.option_map_or, proofs.Common.{◌≡◌, ◌∙◌, ap, refl, ℕ, Bool, true, false, List, [], ◌∷◌, Option, Some, None, Result, Ok, Err, map, slice_get, if◌then◌else◌}}
use Rattle.pim_ip.{specs.declared.refusal.Refusal.Refusal}
use Rattle.pim_types.{specs.declared.{event.{Event.Event, EventKind.EventKind}, outcome.{Emission.Emission, Outcome.Outcome, Verdict.Verdict}}}
use Rattle.pim_model.{specs.{State.State, Step.{outcome_of, ran, run, state_after, step}}}
use Rattle.igmp_older.{specs.{Joined.{FrontedRouter, joined, joined_step, known_after, known_if, noted_if, older_of, present_end, rows_of}, Modes.queries_heard, Presence.{Present, doubted, has_room, hosts_on, left, looked, noted_of, report_noted, setting_or_nobody}, Routers.{queried, query_packet}, Translation.translation, declared.{older.{Older.Older, OlderKind.OlderKind}, setting.OlderHosts.OlderHosts}}}
use Rattle.pim_session.{specs.{Front.{Front, both, bytes_queried, emission_leaving, emissions_leaving, event_queried, front_after, given, kind_queried, version_on}, Laws.{Fronted, Served, SessionIsJoined, WithoutFrontNothingChanges, front_run, front_step, outcome_left, run_served}}, proofs.SetLaws.without_sets}

-- ---- nothing stands before the router

front_alone : (s : State) (es : List Event)
    → front_run (record { front = None; state = s }) es ≡ (run s es, record { front = None; state = state_after s es })
unfolding front_run front_step given front_after emissions_leaving run state_after ran
front_alone s [] = refl
front_alone s (e ∷ es) =
    ap (λ (p : List Outcome × Fronted). let q : List Outcome × Fronted = (outcome_of (step s e) ∷ p.0, p.1) in q)
    (front_alone (step s e).state es)

pub without_front : WithoutFrontNothingChanges
without_front s es =
    without_sets (record { front = None; state = s }) es ∙ ap (run_served []) (front_alone s es)

-- ---- the settings stay

room_hosts : (b : Bool) (p q : Present) → q.hosts ≡ p.hosts → (if b then q else p).hosts ≡ p.hosts
room_hosts true p q e = e
room_hosts false p q e = refl

report_hosts : (p : Present) (i : ℕ) (older : Older) (end : ℕ) → (report_noted p i older end).hosts ≡ p.hosts
unfolding report_noted
report_hosts p i older end = room_hosts (has_room p i older.group.bits) p _ refl

noted_of_hosts : (kind : OlderKind) (p : Present) (i : ℕ) (older : Older) (end : ℕ) → (noted_of kind p i older end).hosts ≡ p.hosts
unfolding doubted
noted_of_hosts OlderKind.ReportOne p i older end = report_hosts p i older end
noted_of_hosts OlderKind.ReportTwo p i older end = report_hosts p i older end
noted_of_hosts OlderKind.Leave p i older end = refl

noted_if_hosts : (p : Present) (i : ℕ) (end : ℕ) (bytes : List ℕ) (o : Option Older) → (noted_if p i end bytes o).hosts ≡ p.hosts
unfolding doubted
noted_if_hosts p i end bytes None = refl
noted_if_hosts p i end bytes (Some older) = noted_of_hosts older.kind p i older end

after_hosts : (b : FrontedRouter) (after : State) (kind : EventKind) → (known_after b after kind).hosts ≡ b.present.hosts
unfolding known_after looked left
after_hosts b after (EventKind.Frame i bytes) =
    noted_if_hosts b.present i.number (present_end b.state i.number) _
    (older_of (translation (rows_of b) b.state.present i.number (hosts_on b.present i.number) bytes))
after_hosts b after (EventKind.Advance moment) = refl
after_hosts b after (EventKind.Down i) = refl
after_hosts b after (EventKind.Unicast bytes) = refl
after_hosts b after (EventKind.Up i) = refl
after_hosts b after (EventKind.Routes routes) = refl
after_hosts b after (EventKind.Rps rps) = refl
after_hosts b after (EventKind.RpCandidates candidates) = refl

if_hosts : (b : FrontedRouter) (after : State) (kind : EventKind) (answer : Result Verdict Refusal) → (known_if b after kind answer).hosts ≡ b.present.hosts
unfolding known_if
if_hosts b after kind (Ok Verdict.Done) = after_hosts b after kind
if_hosts b after kind (Ok (Verdict.Ignored reason)) = refl
if_hosts b after kind (Err refusal) = refl

hosts_stay : (b : FrontedRouter) (e : Event) → (joined_step b e).1.present.hosts ≡ b.present.hosts
unfolding joined_step
hosts_stay b e = if_hosts b _ e.kind _

-- ---- older queries are heard by the settings alone

abbrev with_present : Front → Present → Front
with_present f p = record f { present = p }

kind_same : (f : Front) (p : Present) (kind : EventKind) → p.hosts ≡ f.present.hosts
    → kind_queried (with_present f p) kind ≡ kind_queried f kind
unfolding kind_queried bytes_queried version_on hosts_on
kind_same f p (EventKind.Frame i bytes) e =
    ap (λ (hosts : List OlderHosts). EventKind.Frame i
    (if queries_heard (setting_or_nobody (slice_get hosts i.number)) (version_on f i.number)
    then option_map_or query_packet (queried bytes) bytes else bytes)) e
kind_same f p (EventKind.Advance moment) e = refl
kind_same f p (EventKind.Unicast bytes) e = refl
kind_same f p (EventKind.Up i) e = refl
kind_same f p (EventKind.Down i) e = refl
kind_same f p (EventKind.Routes routes) e = refl
kind_same f p (EventKind.Rps rps) e = refl
kind_same f p (EventKind.RpCandidates candidates) e = refl

abbrev event_with : Event → EventKind → Event
event_with e kind = record e { kind = kind }

events_same : (f : Front) (p : Present) (es : List Event) → p.hosts ≡ f.present.hosts
    → map (event_queried (with_present f p)) es ≡ map (event_queried f) es
events_same f p [] e = refl
events_same f p (x ∷ xs) e =
    ap (λ (k : EventKind). event_with x k ∷ map (event_queried (with_present f p)) xs) (kind_same f p x.kind e)
    ∙ ap (λ (ys : List Event). event_queried f x ∷ ys) (events_same f p xs e)

-- ---- emissions leave by the versions alone

emission_same : (f : Front) (p : Present) (x : Emission) → emission_leaving (with_present f p) x ≡ emission_leaving f x
unfolding emission_leaving version_on
emission_same f p (Emission.Link i bytes) = refl
emission_same f p (Emission.Unicast destination bytes) = refl

pub emissions_same : (f : Front) (p : Present) (xs : List Emission)
    → map (emission_leaving (with_present f p)) xs ≡ map (emission_leaving f) xs
emissions_same f p [] = refl
emissions_same f p (x ∷ xs) =
    ap (λ (y : Emission). y ∷ map (emission_leaving (with_present f p)) xs) (emission_same f p x)
    ∙ ap (λ (ys : List Emission). emission_leaving f x ∷ ys) (emissions_same f p xs)

outcomes_same : (f : Front) (p : Present) (os : List Outcome)
    → map (outcome_left (Some (with_present f p))) os ≡ map (outcome_left (Some f)) os
unfolding emissions_leaving
outcomes_same f p [] = refl
outcomes_same f p (o ∷ os) =
    ap (λ (es : List Emission). let x : Outcome = record o { emissions = es } in x ∷ map (outcome_left (Some (with_present f p))) os)
    (emissions_same f p o.emissions)
    ∙ ap (λ (ys : List Outcome). outcome_left (Some f) o ∷ ys) (outcomes_same f p os)

-- ---- the joined machine

front_is_joined : (f : Front) (s : State) (es : List Event)
    → ((front_run (record { front = Some f; state = s }) es).0
    ≡ map (outcome_left (Some f)) (joined (both f s) (map (event_queried f) es)).0)
    × ((front_run (record { front = Some f; state = s }) es).1.state
    ≡ (joined (both f s) (map (event_queried f) es)).1.state)
unfolding front_run front_step given front_after joined joined_step
front_is_joined f s [] = (refl, refl)
front_is_joined f s (e ∷ es) =
    let first : Outcome × FrontedRouter = joined_step (both f s) (event_queried f e) in
    let next : Front = with_present f first.1.present in
    let later = front_is_joined next first.1.state es in
    let same = events_same f first.1.present es (hosts_stay (both f s) (event_queried f e)) in (
      ap (λ (os : List Outcome). outcome_left (Some f) first.0 ∷ os)
          (later.0 ∙ ap (λ (ys : List Event). map (outcome_left (Some next)) (joined first.1 ys).0) same
          ∙ outcomes_same f first.1.present (joined first.1 (map (event_queried f) es)).0),
      later.1 ∙ ap (λ (ys : List Event). (joined first.1 ys).1.state) same,
    )

pub session_is_joined : SessionIsJoined
session_is_joined f s es =
    let same = without_sets (record { front = Some f; state = s }) es in
    let alone = front_is_joined f s es in (
      ap (λ (p : List Outcome × Served). p.0) same ∙ alone.0,
      ap (λ (p : List Outcome × Served). p.1.state) same ∙ alone.1,
    )
