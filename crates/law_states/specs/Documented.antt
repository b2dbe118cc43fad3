-- A plane as it is documented. Before each event of the router's own it reports its notes, by `keep` in any order, or
-- as seen packets by their timestamps where no timer runs. Then it has the router advance to the present time, or gives
-- at once an Advance that goes there. It reads offers of any sources, and keeps what it was offered until that may
-- differ.
use Rattle.std.{specs.{List.Sorted.IsPermutation, Prelude.{Bool, List, Ok, [], false, if◌then◌else◌, nat_le, not, true, ℕ, ◌&&◌, ◌∷◌, ◌≡◌}}}
use Rattle.pim_types.{specs.declared.{config.Config.Config, event.{Event.Event, EventKind.EventKind}, outcome.Outcome.Outcome}}
use Rattle.pim_model.{specs.{declared.accepted.Accepted.Accepted, Judging.{Judged, judged, last_moment}, Limits.config_test, State.{State, opening}, Step.{Answered, outcome_of, run, state_after, step}}}
use Rattle.law_events.{specs.Named.event_named}
use Rattle.law_plane.{specs.{Offered.offered, Offload.is_to_core, Split.{Notice, Split, advance_to, passes_quietly, whole}, SplitLaws.NamesEachOnce, Staying.OffersAlike, ToldLaws.{PlaneRows, no_plane_rows, told_anew}}}
use Rattle.law_states.{specs.{Guests.{Plane, Turn, asked, at_opening, guest_handled, guest_kind, without}, Kept.{SeenRise, Way, kept_up, told_notes}}}

-- An event, and what the plane does about it.
pub record Act : Type 0 where
  pub turn : Turn
  -- the notes in the order in which they are reported, and how
  pub told : List Notice
  pub way : Way
  -- whether an Advance to the present time follows at once
  pub at_once : Bool

-- The event of an act.
abbrev pub event_of : Act → Event
event_of d = (d.turn).event

-- The event is time, to which the router may advance at once, past its next timer.
abbrev pub goes_at_once : Split → Bool → EventKind → Bool
goes_at_once x at_once (EventKind.Advance m) = at_once && nat_le x.now m && nat_le m last_moment
goes_at_once x at_once kind = false

-- The core's state when the event comes.
unfoldable pub before : Split → Act → State
before x d =
    let told : State = told_notes d.way x.core d.told in
    if goes_at_once x d.at_once (event_of d).kind then told else state_after told (advance_to x.now ∷ [])

-- An event given to the router, after the plane reported its notes.
unfoldable pub given : Split → Act → Split × Outcome
given x d =
    let b : State = before x d in
    let a : Answered = step b (event_of d) in
    (whole a.state (told_anew (event_named b (event_of d)) a.state x.rows), outcome_of a)

-- ---- whose an event is

-- An event, as it was judged, is for the router: a packet that the plane leaves to it, and whatever is no packet.
abbrev pub judged_for_core : Split → PlaneRows → Judged → Bool
judged_for_core x guests (Ok (Accepted.Data i p)) = is_to_core (guest_handled x guests i p)
judged_for_core x guests _ = true

-- An event of some kind is for the router: time that doesn't pass quietly, or what is judged so.
abbrev pub kind_for_core : Split → PlaneRows → EventKind → Bool
kind_for_core x guests (EventKind.Advance m) = not (passes_quietly x m)
kind_for_core x guests kind = judged_for_core x guests (judged x.core kind)

-- An event is for the router, and not for its plane.
unfoldable pub is_for_core : Split → PlaneRows → Event → Bool
is_for_core x guests e = kind_for_core x guests e.kind

-- ---- a run

-- The rows of sources without a fact that the plane has at an act, with those that it reads then.
abbrev pub known_then : Plane → Act → PlaneRows
known_then y d = asked (d.turn).asks (y.split).core y.guests

-- What a plane does with one event: its outcome, and what is left.
unfoldable pub act : Plane → Act → Plane × Outcome
act y d =
    let guests : PlaneRows = known_then y d in
    let next : Split × Outcome =
    (if is_for_core y.split guests (event_of d) then given y.split d
    else guest_kind d.way y.split guests (event_of d) (event_of d).kind) in
    (record { split = next.0; guests = without (d.turn).differs guests }, next.1)

-- At any time the plane may report its notes, and have the router advance to the present time.
abbrev pub up_to_date : Plane → List Notice → Way → Plane
up_to_date y told w = record y {
  split = record (y.split) {
    core = state_after (told_notes w (y.split).core told) (advance_to (y.split).now ∷ []);
    owed = [];
  };
}

-- What a plane does: it takes an event, or reports its notes between events.
pub data Doing : Type 0 where
  Takes : Act → Doing
  Tells : List Notice → Way → Doing

-- A list of what a plane does: the outcomes, and what is left.
unfoldable pub acted : Plane → List Doing → List Outcome × Plane
acted y [] = ([], y)
acted y (Doing.Takes d ∷ ds) =
    let first : Plane × Outcome = act y d in
    let later : List Outcome × Plane = acted first.0 ds in
    (first.1 ∷ later.0, later.1)
acted y (Doing.Tells told w ∷ ds) = acted (up_to_date y told w) ds

-- ---- what the plane owes, and what the router answers

-- Each note is reported once, and those that are reported as seen packets come by their timestamps.
pub record IsTelling (x : Split) (told : List Notice) (w : Way) : Type 0 where
  pub all : IsPermutation x.owed told
  pub once : NamesEachOnce told
  pub rises : SeenRise w x.core (x.core).present told

-- An act keeps the duties of a plane.
pub record IsRight (x : Split) (d : Act) : Type 0 where
  pub telling : IsTelling x d.told d.way
  -- where the router answers that the offer of a source can't differ, it is the same
  pub denied : (g src : ℕ) → (d.turn).differs g src ≡ false
      → OffersAlike (offered (before x d) g src) (offered (step (before x d) (event_of d)).state g src)

-- All that a plane does keeps the duties of a plane.
abbrev pub AreRight : Plane → List Doing → Type 0
AreRight y [] = Unit {0}
AreRight y (Doing.Takes d ∷ ds) =
    (is_for_core y.split (known_then y d) (event_of d) ≡ true → IsRight y.split d) × AreRight (act y d).0 ds
AreRight y (Doing.Tells told w ∷ ds) = IsTelling y.split told w × AreRight (up_to_date y told w) ds

-- The events of what a plane does.
abbrev pub events_in : List Doing → List Event
events_in [] = []
events_in (Doing.Takes d ∷ ds) = event_of d ∷ events_in ds
events_in (Doing.Tells told w ∷ ds) = events_in ds

-- A plane beside a new router, without rows.
abbrev pub plane_at_opening : Config → Plane
plane_at_opening c = record { split = at_opening c; guests = no_plane_rows }

-- The plane sends what a router alone sends, and its router can catch up to the same state.
abbrev pub DocumentedPlaneIsSound : Type 0
DocumentedPlaneIsSound = (c : Config) (acts : List Doing) (w : Way) → config_test c ≡ Ok tt
    → AreRight (plane_at_opening c) acts
    → (let ran : List Outcome × Plane = acted (plane_at_opening c) acts in
    (ran.0 ≡ run (opening c) (events_in acts)) × (kept_up w (ran.1).split ≡ state_after (opening c) (events_in acts)))

-- ---- each run is one of such a plane

-- An act that reports its notes by their timestamps, reads no offer, and drops all offers.
abbrev pub plain_act : Plane → Event → Act
plain_act y e = record {
  turn = record { asks = λ g src. false; event = e; differs = λ g src. true };
  told = (y.split).owed;
  way = record { keeps = λ n. true; draw = 0 };
  at_once = false;
}

unfoldable pub plain_acts : Plane → List Event → List Doing
plain_acts y [] = []
plain_acts y (e ∷ es) = Doing.Takes (plain_act y e) ∷ plain_acts (act y (plain_act y e)).0 es

abbrev pub PlainActsAreRight : Type 0
PlainActsAreRight = (c : Config) (events : List Event) → config_test c ≡ Ok tt
    → AreRight (plane_at_opening c) (plain_acts (plane_at_opening c) events)
    × (events_in (plain_acts (plane_at_opening c) events) ≡ events)
