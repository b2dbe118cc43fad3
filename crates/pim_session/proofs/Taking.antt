-- What a router and what stands before it make of an event.
use Rattle.std.{specs.{Option.option_map_or, Prelude.option_and_then}, proofs.Common.{◌≡◌, ◌∙◌, ◌&&◌, ◌+◌, ap, refl, sym, subst, ℕ, Bool, true, false, is_none, List, [], map, Option, Some, None, option_map, Result, Ok, Err, IfOk, IfSome, IsTrue, if◌then◌else◌}}
use Rattle.pim_ip.{specs.declared.{fault.Fault.Fault, refusal.Refusal.Refusal}}
use Rattle.pim_types.{specs.declared.{config.IfaceId.IfaceId, event.{Event.Event, EventKind.EventKind}, fact.Key.Key, outcome.{Emission.Emission, Verdict.Verdict}}}
use Rattle.pim_model.{specs.{Querier.group_membership_interval, State.{State}, Step.{Answered, step}, Sure.needs_no_memory, Tables.{has_row, row_at}}}
use Rattle.law_settled.{proofs.UnchangedLaws.{ignored_unchanged, refused_unchanged}}
use Rattle.pim_router.{specs.{Standing.{Shown as RouterShown, Standing, standing}, Stepped.Stepped}}
use Rattle.igmp_older.{specs.{Joined.{bytes_given, event_given, joined_step, kind_given, known_after, known_if, noted_answered, noted_if, older_in, older_of, present_end, rows_of}, Presence.{Present, hosts_on, left, live_rows, looked}, Routers.{OlderQueried, Wrote, queried, query_packet}, Translation.{Gives, Translation, packet_given, translation}, declared.{front.Given.Given, older.Older.Older}}}
use Rattle.pim_session.{specs.{Behind.{SteppedBehind, Took, frame_event, is_done, is_plain, packet_of}, Front.{Front, both, bytes_queried, emission_leaving, emissions_leaving, event_queried, front_after, given, hears_queries, is_query_passed, is_sure, kind_queried}}, proofs.FrontLaws.emissions_same}

-- ---- the router is asked

pub has_record_of : (o : Option Standing) (k : Key)
    → option_map_or (λ r. has_row r.state.group_records k) o false ≡ has_row (option_map_or (λ r. r.state.group_records) o []) k
unfolding has_row row_at
has_record_of None k = refl
has_record_of (Some r) k = refl

pub record_of : (o : Option Standing) (k : Key)
    → option_and_then (λ r. row_at r.state.group_records k) o ≡ row_at (option_map_or (λ r. r.state.group_records) o []) k
unfolding row_at
record_of None k = refl
record_of (Some r) k = refl

-- ---- a packet

bytes_so : (given : Given) (o : Option Translation) (bytes written : List ℕ) → Gives given o [] written
    → option_map_or packet_given o bytes ≡ packet_of given bytes written
bytes_so Given.Same None bytes written f = refl
bytes_so Given.Same (Some t) bytes written f = absurd f
bytes_so (Given.Rewritten older) None bytes written f = absurd f
bytes_so (Given.Rewritten older) (Some t) bytes written f = sym f.1

older_so : (given : Given) (o : Option Translation) (written : List ℕ) → Gives given o [] written → older_in given ≡ older_of o
older_so Given.Same None written f = refl
older_so Given.Same (Some t) written f = absurd f
older_so (Given.Rewritten older) None written f = absurd f
older_so (Given.Rewritten older) (Some t) written f = f.0

-- what is given is the event of the definition
event_so : (f : Front) (s : State) (draw : ℕ) (iface : IfaceId) (given : Given) (bytes written : List ℕ)
    → Gives given (translation (live_rows s.group_records f.present.rows) s.present iface.number (hosts_on f.present iface.number) bytes) [] written
    → frame_event draw iface (packet_of given bytes written) ≡ event_given (both f s) (frame_event draw iface bytes)
unfolding event_given kind_given bytes_given
event_so f s draw iface given bytes written h =
    ap (λ (xs : List ℕ). frame_event draw iface xs) (sym (bytes_so given _ bytes written h))

known_so : (f : Front) (s after : State) (iface : IfaceId) (bytes packet : List ℕ) (end : ℕ) (older : Option Older) (answer : Result Verdict Refusal)
    → end ≡ present_end s iface.number
    → packet ≡ bytes_given (live_rows s.group_records f.present.rows) s.present iface.number (hosts_on f.present iface.number) bytes
    → older ≡ older_of (translation (live_rows s.group_records f.present.rows) s.present iface.number (hosts_on f.present iface.number) bytes)
    → noted_answered f.present iface.number end packet older answer ≡ known_if (both f s) after (EventKind.Frame iface bytes) answer
unfolding known_if known_after
known_so f s after iface bytes packet end older (Ok Verdict.Done) late told is =
    ap (λ (n : ℕ). noted_if f.present iface.number n packet older) late
    ∙ (ap (λ (xs : List ℕ). noted_if f.present iface.number (present_end s iface.number) xs older) told
    ∙ ap (λ (o : Option Older). noted_if f.present iface.number (present_end s iface.number) (bytes_given (live_rows s.group_records f.present.rows) s.present iface.number (hosts_on f.present iface.number) bytes) o) is)
known_so f s after iface bytes packet end older (Ok (Verdict.Ignored reason)) late told is = refl
known_so f s after iface bytes packet end older (Err refusal) late told is = refl

-- what is given is the packet of the definition
packet_so : (f : Front) (s : State) (iface : IfaceId) (given : Given) (bytes written : List ℕ)
    → Gives given (translation (live_rows s.group_records f.present.rows) s.present iface.number (hosts_on f.present iface.number) bytes) [] written
    → packet_of given bytes written ≡ bytes_given (live_rows s.group_records f.present.rows) s.present iface.number (hosts_on f.present iface.number) bytes
unfolding bytes_given
packet_so f s iface given bytes written h = sym (bytes_so given _ bytes written h)

abbrev with_present : Front → Present → Front
with_present f p = record f { present = p }

-- what is known after an answered event
known_step : (f : Front) (s : State) (e : Event) (answered : Result Verdict Refusal) (p : Present)
    → answered ≡ (step s (event_given (both f s) e)).answer
    → p ≡ known_if (both f s) (step s (event_given (both f s) e)).state e.kind answered
    → with_present f p ≡ with_present f (joined_step (both f s) e).1.present
unfolding joined_step
known_step f s e answered p a k =
    ap (with_present f)
    (k ∙ ap (λ (x : Result Verdict Refusal). known_if (both f s) (step s (event_given (both f s) e)).state e.kind x) a)

pub packet_took : (o : Option Standing) (f : Front) (draw : ℕ) (iface : IfaceId) (bytes written packet : List ℕ) (given : Given) (event : Event) (before : List Emission) (answered : Result Verdict Refusal) (shown : RouterShown) (after : List Emission) (end : ℕ) (known : Front)
    → Gives given (translation (live_rows (option_map_or (λ r. r.state.group_records) o []) f.present.rows)
    (option_map_or (λ r. r.state.present) o 0) iface.number (hosts_on f.present iface.number) bytes) [] written
    → event ≡ frame_event draw iface (packet_of given bytes written)
    → IfSome o (λ r. Stepped r.state event before answered shown after)
    → end ≡ option_map_or (λ r. r.state.present + group_membership_interval r.state iface.number) o 0
    → packet ≡ packet_of given bytes written
    → known ≡ with_present f (noted_answered f.present iface.number end packet (older_in given) answered)
    → IfSome o (λ r. Took f r.state (frame_event draw iface bytes) before answered shown after known)
packet_took None f draw iface bytes written packet given event before answered shown after end known gives is stepped late told k = tt
packet_took (Some r) f draw iface bytes written packet given event before answered shown after end known gives is stepped late told k =
    let same = is ∙ event_so f r.state draw iface given bytes written gives in
    let went = subst (λ (x : Event). Stepped r.state x before answered shown after) same stepped in
    record {
      stepped = went;
      knows = k ∙ known_step f r.state (frame_event draw iface bytes) answered
          (noted_answered f.present iface.number end packet (older_in given) answered) went.took.answer
          (known_so f r.state _ iface bytes packet end (older_in given) answered late (told ∙ packet_so f r.state iface given bytes written gives)
          (older_so given _ written gives));
    }

-- ---- an older query

wrote_so : (written : Bool) (o : Option OlderQueried) (bytes out : List ℕ) → Wrote written (option_map query_packet o) [] out
    → option_map_or query_packet o bytes ≡ (if written then out else bytes)
wrote_so false None bytes out h = refl
wrote_so true (Some q) bytes out h = sym h
wrote_so false (Some q) bytes out h = absurd h
wrote_so true None bytes out h = absurd h

pub unheard : (f : Front) (i : ℕ) (bytes : List ℕ) → hears_queries f i ≡ false → bytes ≡ bytes_queried f i bytes
unfolding bytes_queried
unheard f i bytes e = rw e refl

pub query_written : (f : Front) (i : ℕ) (written : Bool) (bytes out : List ℕ) → hears_queries f i ≡ true
    → Wrote written (option_map query_packet (queried bytes)) [] out
    → (if written then out else bytes) ≡ bytes_queried f i bytes
unfolding bytes_queried
query_written f i written bytes out e h = rw e (sym (wrote_so written (queried bytes) bytes out h))

pub frame_took : (o : Option Standing) (f : Front) (draw : ℕ) (iface : IfaceId) (bytes packet : List ℕ) (before : List Emission) (result : Result (Result Verdict Refusal) Fault) (shown : RouterShown) (after : List Emission) (known : Front)
    → packet ≡ bytes_queried f iface.number bytes
    → IfSome o (λ r. IfOk result (λ answered. Took f r.state (frame_event draw iface packet) before answered shown after known))
    → IfSome o (λ r. IfOk result (λ answered. Took f r.state (event_queried f (frame_event draw iface bytes)) before answered shown after known))
unfolding kind_queried
frame_took None f draw iface bytes packet before result shown after known is took = tt
frame_took (Some r) f draw iface bytes packet before result shown after known is took =
    subst (λ (xs : List ℕ). IfOk result (λ answered. Took f r.state (frame_event draw iface xs) before answered shown after known)) is took

-- ---- any other event

abbrev event_of : ℕ → EventKind → Event
event_of draw kind = record { draw = draw; kind = kind }

abbrev pub is_frame : EventKind → Bool
is_frame (EventKind.Frame i bytes) = true
is_frame (EventKind.Advance moment) = false
is_frame (EventKind.Unicast bytes) = false
is_frame (EventKind.Up i) = false
is_frame (EventKind.Down i) = false
is_frame (EventKind.Routes routes) = false
is_frame (EventKind.Rps rps) = false
is_frame (EventKind.RpCandidates candidates) = false

-- it is given as it is
given_same : (f : Front) (s : State) (draw : ℕ) (kind : EventKind) → is_frame kind ≡ false
    → event_of draw kind ≡ event_given (both f s) (event_queried f (event_of draw kind))
unfolding event_given kind_given kind_queried
given_same f s draw (EventKind.Frame i bytes) e = cc
given_same f s draw (EventKind.Advance moment) e = refl
given_same f s draw (EventKind.Unicast bytes) e = refl
given_same f s draw (EventKind.Up i) e = refl
given_same f s draw (EventKind.Down i) e = refl
given_same f s draw (EventKind.Routes routes) e = refl
given_same f s draw (EventKind.Rps rps) e = refl
given_same f s draw (EventKind.RpCandidates candidates) e = refl

kind_same : (f : Front) (kind : EventKind) → is_frame kind ≡ false → kind ≡ kind_queried f kind
unfolding kind_queried
kind_same f (EventKind.Frame i bytes) e = cc
kind_same f (EventKind.Advance moment) e = refl
kind_same f (EventKind.Unicast bytes) e = refl
kind_same f (EventKind.Up i) e = refl
kind_same f (EventKind.Down i) e = refl
kind_same f (EventKind.Routes routes) e = refl
kind_same f (EventKind.Rps rps) e = refl
kind_same f (EventKind.RpCandidates candidates) e = refl

other_took : (o : Option Standing) (f : Front) (e : Event) (before : List Emission) (answered : Result Verdict Refusal) (shown : RouterShown) (after : List Emission) (p : Present) (known : Front)
    → known ≡ with_present f p → is_frame e.kind ≡ false → IfSome o (λ r. Stepped r.state e before answered shown after)
    → ((s : State) → shown.standing ≡ Some (standing (step s e)) → p ≡ known_if (both f s) (step s e).state e.kind answered)
    → IfSome o (λ r. Took f r.state (event_queried f e) before answered shown after known)
other_took None f e before answered shown after p known so is stepped k = tt
other_took (Some r) f e before answered shown after p known so is stepped k =
    let same = given_same f r.state e.draw e.kind is in
    let went = subst (λ (x : Event). Stepped r.state x before answered shown after) same stepped in
    let told = subst (λ (x : Event). p ≡ known_if (both f r.state) (step r.state x).state e.kind answered) same
    (k r.state stepped.took.state) in
    record {
      stepped = went;
      knows = so ∙ known_step f r.state (event_queried f e) answered p went.took.answer
          (subst (λ (x : EventKind). p ≡ known_if (both f r.state) (step r.state (event_given (both f r.state) (event_queried f e))).state x answered)
          (kind_same f e.kind is) told);
    }

-- time passed
advance_knows : (f : Front) (moment : ℕ) (answered : Result Verdict Refusal) (shown : RouterShown) (p : Present)
    → p ≡ (if is_done answered then looked (option_map_or (λ r. r.state.group_records) shown.standing []) moment f.present else f.present)
    → (s : State) (a : Answered) → shown.standing ≡ Some (standing a)
    → p ≡ known_if (both f s) a.state (EventKind.Advance moment) answered
unfolding known_if known_after
advance_knows f moment (Ok Verdict.Done) shown p e s a is =
    e ∙ ap (λ (o : Option Standing). looked (option_map_or (λ r. r.state.group_records) o []) moment f.present) is
advance_knows f moment (Ok (Verdict.Ignored reason)) shown p e s a is = e
advance_knows f moment (Err refusal) shown p e s a is = e

pub advance_took : (o : Option Standing) (f : Front) (e : Event) (moment : ℕ) (before : List Emission) (answered : Result Verdict Refusal) (shown : RouterShown) (after : List Emission) (p : Present) (known : Front)
    → known ≡ with_present f p → e.kind ≡ EventKind.Advance moment → IfSome o (λ r. Stepped r.state e before answered shown after)
    → p ≡ (if is_done answered then looked (option_map_or (λ r. r.state.group_records) shown.standing []) moment f.present else f.present)
    → IfSome o (λ r. Took f r.state (event_queried f e) before answered shown after known)
advance_took o f e moment before answered shown after p known so is stepped k =
    other_took o f e before answered shown after p known so (ap is_frame is) stepped
    (λ s there. subst (λ (x : EventKind). p ≡ known_if (both f s) (step s e).state x answered) (sym is)
    (advance_knows f moment answered shown p k s (step s e) there))

-- an interface went down
down_knows : (f : Front) (iface : IfaceId) (answered : Result Verdict Refusal) (p : Present)
    → p ≡ (if is_done answered then left iface.number f.present else f.present)
    → (s after : State) → p ≡ known_if (both f s) after (EventKind.Down iface) answered
unfolding known_if known_after
down_knows f iface (Ok Verdict.Done) p e s after = e
down_knows f iface (Ok (Verdict.Ignored reason)) p e s after = e
down_knows f iface (Err refusal) p e s after = e

pub down_took : (o : Option Standing) (f : Front) (e : Event) (iface : IfaceId) (before : List Emission) (answered : Result Verdict Refusal) (shown : RouterShown) (after : List Emission) (p : Present) (known : Front)
    → known ≡ with_present f p → e.kind ≡ EventKind.Down iface → IfSome o (λ r. Stepped r.state e before answered shown after)
    → p ≡ (if is_done answered then left iface.number f.present else f.present)
    → IfSome o (λ r. Took f r.state (event_queried f e) before answered shown after known)
down_took o f e iface before answered shown after p known so is stepped k =
    other_took o f e before answered shown after p known so (ap is_frame is) stepped
    (λ s there. subst (λ (x : EventKind). p ≡ known_if (both f s) (step s e).state x answered) (sym is)
    (down_knows f iface answered p k s _))

-- nothing is heard or forgotten
plain_knows : (f : Front) (s after : State) (kind : EventKind) (answered : Result Verdict Refusal) → is_plain kind ≡ true
    → f.present ≡ known_if (both f s) after kind answered
unfolding known_if known_after
plain_knows f s after kind (Ok (Verdict.Ignored reason)) e = refl
plain_knows f s after kind (Err refusal) e = refl
plain_knows f s after (EventKind.Frame i bytes) (Ok Verdict.Done) e = cc
plain_knows f s after (EventKind.Advance moment) (Ok Verdict.Done) e = cc
plain_knows f s after (EventKind.Down i) (Ok Verdict.Done) e = cc
plain_knows f s after (EventKind.Unicast bytes) (Ok Verdict.Done) e = refl
plain_knows f s after (EventKind.Up i) (Ok Verdict.Done) e = refl
plain_knows f s after (EventKind.Routes routes) (Ok Verdict.Done) e = refl
plain_knows f s after (EventKind.Rps rps) (Ok Verdict.Done) e = refl
plain_knows f s after (EventKind.RpCandidates candidates) (Ok Verdict.Done) e = refl

plain_frame : (kind : EventKind) → is_plain kind ≡ true → is_frame kind ≡ false
plain_frame (EventKind.Frame i bytes) e = cc
plain_frame (EventKind.Advance moment) e = refl
plain_frame (EventKind.Unicast bytes) e = refl
plain_frame (EventKind.Up i) e = refl
plain_frame (EventKind.Down i) e = refl
plain_frame (EventKind.Routes routes) e = refl
plain_frame (EventKind.Rps rps) e = refl
plain_frame (EventKind.RpCandidates candidates) e = refl

pub plain_took : (o : Option Standing) (f : Front) (e : Event) (before : List Emission) (answered : Result Verdict Refusal) (shown : RouterShown) (after : List Emission)
    → is_plain e.kind ≡ true → IfSome o (λ r. Stepped r.state e before answered shown after)
    → IfSome o (λ r. Took f r.state (event_queried f e) before answered shown after f)
plain_took o f e before answered shown after is stepped =
    other_took o f e before answered shown after f.present f refl (plain_frame e.kind is) stepped
    (λ s there. plain_knows f s _ e.kind answered is)

-- ---- events for which no memory is taken

pub fails : (o : Option Standing) (P : Standing → Type 0) (B : Type 0) → IfSome o (λ r. P r → false ≡ true) → IfSome o (λ r. P r → B)
fails None P B h = tt
fails (Some r) P B h = λ p. let no : false ≡ true = h p in cc

none_so : {A : Type 0} (o : Option A) → is_none o ≡ true → o ≡ None
none_so None e = refl
none_so (Some x) e = cc

and_left : (a b : Bool) → (a && b) ≡ true → a ≡ true
and_left true b e = refl
and_left false b e = cc

and_right : (a b : Bool) → (a && b) ≡ true → b ≡ true
and_right true b e = e
and_right false b e = cc

abbrev pub IsGivenSame : Front → State → IfaceId → List ℕ → Type 0
IsGivenSame f s iface bytes = translation (rows_of (both f s)) s.present iface.number (hosts_on f.present iface.number) bytes ≡ None

abbrev pub NeedsNone : State → Event → Type 0
NeedsNone s e = IsTrue (needs_no_memory (step s e).answer)

-- a packet that is given as it came
query_passed : (heard : Bool) (bytes : List ℕ) → is_query_passed heard bytes ≡ true
    → (if heard then option_map_or query_packet (queried bytes) bytes else bytes) ≡ bytes
query_passed false bytes e = refl
query_passed true bytes e = ap (λ (o : Option OlderQueried). option_map_or query_packet o bytes) (none_so (queried bytes) e)

passed_given : (f : Front) (s : State) (draw : ℕ) (iface : IfaceId) (bytes : List ℕ)
    → is_query_passed (hears_queries f iface.number) bytes ≡ true → IsGivenSame f s iface bytes
    → given (Some f) s (frame_event draw iface bytes) ≡ frame_event draw iface bytes
unfolding given event_given kind_given bytes_given kind_queried bytes_queried
passed_given f s draw iface bytes query none =
    ap (λ (xs : List ℕ). frame_event draw iface (bytes_given (rows_of (both f s)) s.present iface.number (hosts_on f.present iface.number) xs))
    (query_passed (hears_queries f iface.number) bytes query)
    ∙ ap (λ (o : Option Translation). frame_event draw iface (option_map_or packet_given o bytes)) none

pub frame_surely : (o : Option Standing) (f : Front) (draw : ℕ) (iface : IfaceId) (bytes : List ℕ) (B : Type 0)
    → IfSome o (λ r. IsGivenSame f r.state iface bytes → NeedsNone r.state (frame_event draw iface bytes) → B)
    → IfSome o (λ r. IsTrue (is_sure (Some f) r.state (frame_event draw iface bytes)) → B)
unfolding is_sure
frame_surely None f draw iface bytes B h = tt
frame_surely (Some r) f draw iface bytes B h = λ sure.
    let passed = and_left _ _ sure in
    let query = and_left _ _ passed in
    let none = none_so _ (and_right _ _ passed) in
    h none (subst (λ (x : Event). NeedsNone r.state x) (passed_given f r.state draw iface bytes query none) (and_right _ _ sure))

-- no older query is heard of such a packet
no_query : (heard : Bool) (bytes : List ℕ) → heard ≡ true → is_query_passed heard bytes ≡ true → queried bytes ≡ None
no_query true bytes h e = none_so (queried bytes) e
no_query false bytes h e = cc

pub query_surely : (o : Option Standing) (f : Front) (draw : ℕ) (iface : IfaceId) (bytes : List ℕ) (B : Type 0)
    → hears_queries f iface.number ≡ true → (queried bytes ≡ None → B)
    → IfSome o (λ r. IsTrue (is_sure (Some f) r.state (frame_event draw iface bytes)) → B)
unfolding is_sure
query_surely None f draw iface bytes B heard h = tt
query_surely (Some r) f draw iface bytes B heard h = λ sure.
    h (no_query (hears_queries f iface.number) bytes heard (and_left _ _ (and_left _ _ sure)))

pub wrote_surely : (o : Option OlderQueried) (out : List ℕ) (B : Type 0) → Wrote true (option_map query_packet o) [] out → o ≡ None → B
wrote_surely None out B h e = absurd h
wrote_surely (Some q) out B h e = cc

pub other_surely : (o : Option Standing) (f : Front) (e : Event) (B : Type 0) → is_frame e.kind ≡ false
    → IfSome o (λ r. NeedsNone r.state e → B) → IfSome o (λ r. IsTrue (is_sure (Some f) r.state e) → B)
unfolding is_sure given
other_surely None f e B is h = tt
other_surely (Some r) f e B is h = λ sure.
    h (subst (λ (x : Event). NeedsNone r.state x) (sym (given_same f r.state e.draw e.kind is)) (and_right _ _ sure))

pub plain_surely : (o : Option Standing) (f : Front) (e : Event) (B : Type 0) → is_plain e.kind ≡ true
    → IfSome o (λ r. NeedsNone r.state e → B) → IfSome o (λ r. IsTrue (is_sure (Some f) r.state e) → B)
plain_surely o f e B is h = other_surely o f e B (plain_frame e.kind is) h

-- what is answered surely sends nothing
silent_by : (s : State) (e : Event) (x : Result Verdict Refusal) → (step s e).answer ≡ x → needs_no_memory x ≡ true → (step s e).emissions ≡ []
silent_by s e (Ok Verdict.Done) is sure = cc
silent_by s e (Ok (Verdict.Ignored reason)) is sure = (ignored_unchanged s e reason is).1
silent_by s e (Err refusal) is sure = (refused_unchanged s e refusal is).1

-- ---- with what leaves

pub left_surely : (o : Option Standing) (f : Front) (e : Event) (answered : Result Verdict Refusal) (shown : RouterShown) (sent : List Emission) (known : Front) (B : Type 0)
    → IfSome o (λ r. Took f r.state (event_queried f e) [] answered shown sent known)
    → (sent ≡ [] → B) → IfSome o (λ r. IsTrue (is_sure (Some f) r.state e) → B)
unfolding is_sure given
left_surely None f e answered shown sent known B took h = tt
left_surely (Some r) f e answered shown sent known B took h = λ sure.
    h (took.stepped.sent ∙ silent_by r.state (event_given (both f r.state) (event_queried f e)) _ refl (and_right _ _ sure))

pub all_stepped : (o : Option Standing) (f : Front) (e : Event) (answered : Result Verdict Refusal) (shown : RouterShown) (sent leaving : List Emission) (known : Front)
    → IfSome o (λ r. Took f r.state (event_queried f e) [] answered shown sent known)
    → leaving ≡ map (emission_leaving known) sent
    → IfSome o (λ r. SteppedBehind (Some f) r.state e answered shown leaving (Some known))
unfolding given front_after emissions_leaving
all_stepped None f e answered shown sent leaving known took is = tt
all_stepped (Some r) f e answered shown sent leaving known took is =
    record {
      took = took.stepped.took;
      sent = is ∙ ap (λ (g : Front). map (emission_leaving g) sent) took.knows
          ∙ emissions_same f (joined_step (both f r.state) (event_queried f e)).1.present sent
          ∙ ap (λ (xs : List Emission). map (emission_leaving f) xs) took.stepped.sent;
      known = ap (λ (g : Front). Some g) took.knows;
    }

pub all_alone : (o : Option Standing) (front : Option Front) (e : Event) (answered : Result Verdict Refusal) (shown : RouterShown) (sent : List Emission) (known : Option Front)
    → front ≡ None → known ≡ None → IfSome o (λ r. Stepped r.state e [] answered shown sent)
    → IfSome o (λ r. SteppedBehind front r.state e answered shown sent known)
unfolding given front_after emissions_leaving
all_alone None front e answered shown sent known is none stepped = tt
all_alone (Some r) (Some f) e answered shown sent known is none stepped = cc
all_alone (Some r) None e answered shown sent known is none stepped = record { took = stepped.took; sent = stepped.sent; known = none }
