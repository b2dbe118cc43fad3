-- What the guard stops changes nothing; what it lets through is let through behind a front for older hosts too.
use Rattle.std.{specs.{List.All, Option.option_map_or}, proofs.Common.{◌≡◌, ◌≢◌, ◌∙◌, ap, refl, arith, sym, subst, ℕ, Bool, true, false, List, [], ◌∷◌, Option, Some, None, option_map, map, get_or, IfSome, IsSome, IsTrue, cond, Err, Result, if◌then◌else◌}}
use Rattle.pim_ip.{specs.{Checksum.with_checksum, Ipv4.{header_text, igmp_packet_text, ipv4_reading}, declared.refusal.Refusal.Refusal}}
use Rattle.pim_types.{specs.declared.{event.{Event.Event, EventKind.EventKind}, outcome.{Emission.Emission, Stop.Stop, Verdict.Verdict}}}
use Rattle.pim_model.{specs.{Full.passes_limit, Judging.{judged, unicast_judged}, State.State, Step.{step, stopped}, Sure.needs_no_memory, Tables.same_bool}}
use Rattle.law_events.{specs.Named.event_named}
use Rattle.law_streams.{specs.Copies.copies_at}
use Rattle.pim_state.{specs.declared.touched.Touched.Touched}
use Rattle.pim_event.{specs.{Disturbing.{disturbed_with_room, event_disturbed, event_touched}, Listing.ListsSame, Replacing.{NoneReplaced, event_replaced}}}
use Rattle.pim_router.{specs.{Standing.{Shown, Standing, beginning, nothing_shown, standing}, Stepped.{Stepped, TookEvent}}}
use Rattle.igmp_older.{specs.{Joined.{bytes_given, event_given, joined_step, kind_given, known_if, rows_of}, Presence.hosts_on, Routers.{OlderQueried, queried, query_packet}, Translation.{Translation, packet_given, translation}}}
use Rattle.pim_guard.{specs.{Guard.{guarded, guarded_if, is_frame_stopped, is_kind_stopped}, Laws.IsOfData}, proofs.{Guarded.{guarded_copies_are_data, guarded_passes}, Passing.no_frame_of_another}}
use Rattle.pim_anycast.{specs.{Joined.{event_given as shared_given, kind_given as shared_kind}, Passed.passed, declared.set.RpSet.RpSet}}
use Rattle.pim_session.{specs.{Front.{Front, both, bytes_queried, emissions_leaving, event_queried, front_after, given, hears_queries, kind_queried}, Laws.{CopiesAreData, GuardedSessionCopiesData, Served, StoppedEventChangesNothing, WithoutGuardSessionStays, session_run, session_step}, Shared.{front_behind, given_behind, left_behind}, Untaken.IsStill}, proofs.Counted.{kind_passes as shared_passes}}

-- ---- the empty packet that the router is given in the place of what is stopped

abbrev pub empty : ℕ → Event
empty draw = record { draw = draw; kind = EventKind.Unicast [] }

refused : (s : State) (draw : ℕ) → step s (empty draw) ≡ stopped s (Stop.Refuse Refusal.Short)
unfolding step judged unicast_judged ipv4_reading
refused s draw = refl

needs_none : (s : State) (draw : ℕ) → needs_no_memory (step s (empty draw)).answer ≡ true
needs_none s draw = rw (refused s draw) refl

names_none : (s : State) (draw : ℕ) → event_named s (empty draw) ≡ []
unfolding event_named judged unicast_judged ipv4_reading
names_none s draw = refl

same : (b : Bool) → same_bool b b ≡ true
same true = refl
same false = refl

disturbs_none : (s : State) (draw : ℕ) → event_disturbed s (empty draw) ≡ record { touched = Touched.Keys []; replaced = NoneReplaced }
unfolding event_touched disturbed_with_room event_replaced step judged unicast_judged ipv4_reading
disturbs_none s draw = rw (same (passes_limit s 1)) refl

still : (old shown : Shown) (draw : ℕ) (answered : Result Verdict Refusal)
    → IfSome old.standing (λ r. TookEvent r.state (empty draw) answered shown)
    → IsSome old.standing → IsStill old shown
still old shown draw answered took some = go old.standing refl took some
  where
    go : (o : Option Standing) → old.standing ≡ o
        → IfSome o (λ r. TookEvent r.state (empty draw) answered shown)
        → IsSome o → IsStill old shown
    go None is took some = cc
    go (Some r) is took some = record {
      standing = took.state ∙ ap (λ a. Some (standing a)) (refused r.state draw)
          ∙ sym (ap (option_map (λ (r : Standing). beginning r.state)) is);
      changed = subst (ListsSame shown.changed) (names_none r.state draw) took.tells.changed;
      disturbed = took.tells.disturbed ∙ disturbs_none r.state draw;
    }

-- the same of a session's router, by what the session shows
pub stays_still : (lost : Bool) (now shown before after : Shown) (event : Event) (draw : ℕ) (answered : Result Verdict Refusal)
    (sent left : List Emission)
    → cond lost nothing_shown shown ≡ now → before ≡ shown → event ≡ empty draw → IsSome now.standing
    → IfSome before.standing (λ r. Stepped r.state event sent answered after left)
    → IsStill now (cond lost nothing_shown after)
stays_still true now shown before after event draw answered sent left view is told some stepped =
    let no : IsSome (nothing_shown.standing) = subst (λ (x : Shown). IsSome x.standing) (sym view) some in cc
stays_still false now shown before after event draw answered sent left view is told some stepped =
    let same : before ≡ now = is ∙ view in
    subst (λ (x : Shown). IsStill x after) same
    (still before after draw answered
    (took before.standing (subst (λ (e : Event). IfSome before.standing (λ r. Stepped r.state e sent answered after left)) told stepped))
    (subst (λ (x : Shown). IsSome x.standing) (sym same) some))
  where
    took : (o : Option Standing) → IfSome o (λ r. Stepped r.state (empty draw) sent answered after left)
        → IfSome o (λ r. TookEvent r.state (empty draw) answered after)
    took None h = tt
    took (Some r) h = h.took

pub sure_to_stay : (lost : Bool) (now shown before : Shown) (event : Event) (draw : ℕ) (B : Type 0)
    → cond lost nothing_shown shown ≡ now → before ≡ shown → event ≡ empty draw → IsSome now.standing
    → IfSome before.standing (λ r. IsTrue (needs_no_memory (step r.state event).answer) → B) → B
sure_to_stay true now shown before event draw B view is told some sure =
    let no : IsSome (nothing_shown.standing) = subst (λ (x : Shown). IsSome x.standing) (sym view) some in cc
sure_to_stay false now shown before event draw B view is told some sure =
    go before.standing (subst (λ (x : Shown). IsSome x.standing) (sym (is ∙ view)) some) sure
  where
    go : (o : Option Standing) → IsSome o → IfSome o (λ r. IsTrue (needs_no_memory (step r.state event).answer) → B) → B
    go None some sure = cc
    go (Some r) some sure =
        sure (subst (λ (e : Event). needs_no_memory (step r.state e).answer ≡ true) (sym told) (needs_none r.state draw))

-- ---- what is given behind a front

query_of_igmp : (t : OlderQueried) → get_or (query_packet t) 9 0 ≡ 2
unfolding query_packet igmp_packet_text header_text with_checksum
query_of_igmp t = refl

report_of_igmp : (t : Translation) → get_or (packet_given t) 9 0 ≡ 2
unfolding packet_given igmp_packet_text header_text with_checksum
report_of_igmp t = refl

no_pim : (n : ℕ) → n ≡ 2 → n ≢ 103
no_pim n is e = absurd (omega (arith, is, e))

query_passes : (t : OlderQueried) → is_frame_stopped (query_packet t) ≡ false
query_passes t = no_frame_of_another (query_packet t) (no_pim _ (query_of_igmp t))

report_passes : (t : Translation) → is_frame_stopped (packet_given t) ≡ false
report_passes t = no_frame_of_another (packet_given t) (no_pim _ (report_of_igmp t))

queried_passes : (o : Option OlderQueried) (bytes : List ℕ) → is_frame_stopped bytes ≡ false
    → is_frame_stopped (option_map_or query_packet o bytes) ≡ false
queried_passes None bytes passed = passed
queried_passes (Some t) bytes passed = query_passes t

if_passes : (b : Bool) (one other : List ℕ) → is_frame_stopped one ≡ false → is_frame_stopped other ≡ false
    → is_frame_stopped (if b then one else other) ≡ false
if_passes true one other p q = p
if_passes false one other p q = q

translated_passes : (o : Option Translation) (bytes : List ℕ) → is_frame_stopped bytes ≡ false
    → is_frame_stopped (option_map_or packet_given o bytes) ≡ false
translated_passes None bytes passed = passed
translated_passes (Some t) bytes passed = report_passes t

kind_passes : (f : Front) (s : State) (kind : EventKind) → is_kind_stopped kind ≡ false
    → is_kind_stopped (kind_given (both f s) (kind_queried f kind)) ≡ false
unfolding kind_given kind_queried bytes_given bytes_queried
kind_passes f s (EventKind.Frame i bytes) passed =
    translated_passes (translation (rows_of (both f s)) s.present i.number (hosts_on f.present i.number) (bytes_queried f i.number bytes)) _
    (if_passes (hears_queries f i.number) _ _ (queried_passes (queried bytes) bytes passed) passed)
kind_passes f s (EventKind.Advance moment) passed = refl
kind_passes f s (EventKind.Unicast bytes) passed = passed
kind_passes f s (EventKind.Up i) passed = refl
kind_passes f s (EventKind.Down i) passed = refl
kind_passes f s (EventKind.Routes routes) passed = refl
kind_passes f s (EventKind.Rps rps) passed = refl
kind_passes f s (EventKind.RpCandidates candidates) passed = refl

given_passes : (front : Option Front) (s : State) (e : Event) → is_kind_stopped e.kind ≡ false
    → is_kind_stopped (given front s e).kind ≡ false
unfolding given event_given
given_passes None s e passed = passed
given_passes (Some f) s e passed = kind_passes f s e.kind passed

behind_passes : (sets : List RpSet) (front : Option Front) (s : State) (e : Event) → is_kind_stopped e.kind ≡ false
    → is_kind_stopped (given_behind sets front s e).kind ≡ false
unfolding given_behind shared_given
behind_passes sets front s e passed = given_passes front s (shared_given sets s e) (shared_passes sets s e.kind passed)

-- ---- the laws

copies_data : (x : Served) (e : Event) → is_kind_stopped e.kind ≡ false
    → All (IsOfData x.state (given_behind x.sets x.front x.state e)) (copies_at x.state (given_behind x.sets x.front x.state e))
copies_data x e passed =
    let behind : Event = given_behind x.sets x.front x.state e in
    let same : guarded true behind ≡ behind = ap (λ (b : Bool). guarded_if b behind) (behind_passes x.sets x.front x.state e passed) in
    subst (λ (y : Event). All (IsOfData x.state y) (copies_at x.state y)) same (guarded_copies_are_data x.state behind)

pub guarded_session_copies_data : GuardedSessionCopiesData
unfolding CopiesAreData
guarded_session_copies_data x [] = tt
guarded_session_copies_data x (e ∷ es) = (
  copies_data x (guarded true e) (guarded_passes (is_kind_stopped e.kind) e refl),
  guarded_session_copies_data (session_step x (guarded true e)).1 es,
)

empty_changes_nothing : (x : Served) (draw : ℕ)
    → session_step x (empty draw) ≡ (record { answer = Err Refusal.Short; emissions = []; copies = 0 }, x)
unfolding session_step given_behind front_behind left_behind shared_given shared_kind passed given event_given kind_given kind_queried front_after joined_step known_if emissions_leaving step judged unicast_judged ipv4_reading
empty_changes_nothing x draw = go x.sets x.front x.state
  where
    go : (sets : List RpSet) (front : Option Front) (s : State)
        → session_step (record { sets = sets; front = front; state = s }) (empty draw)
        ≡ (record { answer = Err Refusal.Short; emissions = []; copies = 0 }, record { sets = sets; front = front; state = s })
    go sets None s = refl
    go sets (Some f) s = refl

pub stopped_event_changes_nothing : StoppedEventChangesNothing
stopped_event_changes_nothing x e is =
    ap (λ (b : Bool). session_step x (guarded_if b e)) is ∙ empty_changes_nothing x e.draw

pub without_guard_session_stays : WithoutGuardSessionStays
without_guard_session_stays x es = ap (session_run x) (go es)
  where
    go : (es : List Event) → map (guarded false) es ≡ es
    go [] = refl
    go (e ∷ es) = ap (λ (rest : List Event). e ∷ rest) (go es)
