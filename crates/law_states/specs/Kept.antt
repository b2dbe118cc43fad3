-- What a plane reports to its router before an event of the router's own: of each source the last packet that it noted.
-- It reports the packet by its timestamp where the keepalive timer of the source runs, and else, or where it likes, as
-- a packet that was seen then.
use Rattle.std.{specs.{Prelude.{Bool, List, Ok, [], false, if◌then◌else◌, ℕ, ◌&&◌, ◌∷◌, ◌≡◌, ◌≤◌}, List.Sorted.IsPermutation}}
use Rattle.pim_types.{specs.{declared.{config.{Config.Config, IfaceId.IfaceId}, event.{Event.Event, EventKind.EventKind}, outcome.Outcome.Outcome}, Keys.{group_in, source_in}}}
use Rattle.pim_model.{specs.{declared.accepted.Accepted.Accepted, Judging.{Judged, judged}, Limits.config_test, Sets.is_kept_alive, State.{State, opening}, Step.{Answered, outcome_of, run, state_after, step}}}
use Rattle.pim_ip.{specs.Ipv4.Packet}
use Rattle.law_events.{specs.Named.event_named}
use Rattle.law_plane.{specs.{Keeping.keep, Offload.Handling, Seen.seen_event, Split.{Notice, Split, advance_to, caught_up, handled_by, nothing_sent, passes_quietly, sent, split_ran, whole, with_notice}, SplitLaws.NamesEachOnce, ToldLaws.{no_plane_rows, told_anew}}}

-- the interface on which an event brings a packet
abbrev pub iface_of : EventKind → IfaceId
iface_of (EventKind.Frame i bytes) = i
iface_of kind = record { number = 0 }

-- KAT(S,G) of the source of a note runs.
abbrev pub runs_for : State → Notice → Bool
runs_for s n = is_kept_alive s (group_in n.source) (source_in n.source)

-- Of which notes a plane tries to report by `keep`; the others are reported as seen packets, with a draw.
pub record Way : Type 0 where
  pub keeps : Notice → Bool
  pub draw : ℕ

-- A note is reported by `keep`.
abbrev pub is_kept : Way → State → Notice → Bool
is_kept w s n = w.keeps n && runs_for s n

-- The calls of `keep`, and of `advance` and `seen` with any draw.
abbrev pub kept_note : State → Notice → State
kept_note s n = keep s (group_in n.source) (source_in n.source) n.moment

-- The event by which a note is reported as a seen packet.
abbrev pub seen_note : Way → Notice → Event
seen_note w n = seen_event w.draw (iface_of (n.packet).kind) (group_in n.source) (source_in n.source)

-- The state after a note is reported as a seen packet at its own timestamp.
abbrev pub shown_note : Way → State → Notice → State
shown_note w s n = state_after s (advance_to n.moment ∷ seen_note w n ∷ [])

-- The state after a note is reported, in one way or the other.
unfoldable pub told_note : Way → State → Notice → State
told_note w s n = if is_kept w s n then kept_note s n else shown_note w s n

-- The state after several notes are reported.
unfoldable pub told_notes : Way → State → List Notice → State
told_notes w s [] = s
told_notes w s (n ∷ ns) = told_notes w (told_note w s n) ns

-- The state after the notes, and then the present time.
abbrev pub kept_up : Way → Split → State
kept_up w x = state_after (told_notes w x.core x.owed) (advance_to x.now ∷ [])

-- ---- a split router whose plane reports in this way

-- The router hears of the notes, and then of an event; the rows that the event names are given again.
unfoldable pub kept_core : Way → Split → Event → Split × Outcome
kept_core w x e =
    let before : State = kept_up w x in
    let a : Answered = step before e in
    (whole a.state (told_anew (event_named before e) a.state x.rows), outcome_of a)

-- A packet that the plane forwards or drops, or hands to the router.
abbrev pub kept_plane : Way → Split → Event → Packet → Handling → Split × Outcome
kept_plane w x e p (Handling.Forward alive list) = (with_notice x e p alive, sent x.core p list)
kept_plane w x e p Handling.Drop = (x, nothing_sent)
kept_plane w x e p Handling.ToCore = kept_core w x e

abbrev pub kept_judgement : Way → Split → Event → Judged → Split × Outcome
kept_judgement w x e (Ok (Accepted.Data i p)) = kept_plane w x e p (handled_by x i p)
kept_judgement w x e _ = kept_core w x e

-- Time passes: quietly, or as an event of the router's.
unfoldable pub kept_time : Way → Split → Event → ℕ → Split × Outcome
kept_time w x e m = if passes_quietly x m then (record x { now = m }, nothing_sent) else kept_core w x e

abbrev pub kept_kind : Way → Split → Event → EventKind → Split × Outcome
kept_kind w x e (EventKind.Advance m) = kept_time w x e m
kept_kind w x e kind = kept_judgement w x e (judged x.core kind)

unfoldable pub kept_step : Way → Split → Event → Split × Outcome
kept_step w x e = kept_kind w x e e.kind

unfoldable pub kept_ran : Way → Split → List Event → List Outcome × Split
kept_ran w x [] = ([], x)
kept_ran w x (e ∷ es) =
    let first : Split × Outcome = kept_step w x e in
    let later : List Outcome × Split = kept_ran w first.0 es in
    (first.1 ∷ later.0, later.1)

-- ---- laws

-- What a plane reports in this way leaves the core in the state in which each packet at its own timestamp does.
abbrev pub KeptIsCaughtUp : Type 0
KeptIsCaughtUp = (c : Config) (events : List Event) (w : Way) → config_test c ≡ Ok tt
    → (let x : Split = (split_ran (whole (opening c) no_plane_rows) events).1 in kept_up w x ≡ caught_up x)

-- A split router whose plane reports in this way sends what a router sends that gets every packet as an event.
abbrev pub SplitRouterByKeepIsSound : Type 0
SplitRouterByKeepIsSound = (c : Config) (events : List Event) (w : Way) → config_test c ≡ Ok tt
    → ((kept_ran w (whole (opening c) no_plane_rows) events).0 ≡ run (opening c) events)
    × (kept_up w (kept_ran w (whole (opening c) no_plane_rows) events).1 ≡ state_after (opening c) events)

-- The notes that are reported as seen packets come by their timestamps, none earlier than a given one.
abbrev pub SeenRise : Way → State → ℕ → List Notice → Type 0
SeenRise w s m [] = Unit {0}
SeenRise w s m (n ∷ ns) =
    (is_kept w s n ≡ false → m ≤ n.moment) × SeenRise w s (if is_kept w s n then m else n.moment) ns

-- Notes may be reported in another order: those of sources whose timers run in any order, the others by their
-- timestamps.
abbrev pub KeptInAnyOrder : Type 0
KeptInAnyOrder = (c : Config) (events : List Event) (w : Way) (told : List Notice) → config_test c ≡ Ok tt
    → (let x : Split = (split_ran (whole (opening c) no_plane_rows) events).1 in
    IsPermutation x.owed told → NamesEachOnce told → SeenRise w x.core (x.core).present told
    → state_after (told_notes w x.core told) (advance_to x.now ∷ []) ≡ caught_up x)
