-- A plane and its router with a front for older hosts before the router, beside a front and a router alone.
use Rattle.std.{specs.Prelude.{Bool, List, Ok, [], if◌then◌else◌, ℕ, ◌∷◌, ◌≡◌, ◌≤◌}}
use Rattle.pim_types.{specs.declared.{config.Config.Config, event.Event.Event, outcome.Outcome.Outcome}}
use Rattle.pim_model.{specs.{Judging.last_moment, Limits.config_test, State.{State, opening}}}
use Rattle.law_events.{specs.Rest.IsAtRest}
use Rattle.law_plane.{specs.Split.{Notice, advance_to, nothing_sent}}
use Rattle.law_states.{specs.{Documented.{Act, AreRight, Doing, act, acted, event_of, events_in, goes_at_once, is_for_core, known_then, plain_act, plane_at_opening, up_to_date}, Guests.Plane, Kept.{Way, is_kept, kept_up, told_note}}}
use Rattle.igmp_older.{specs.{Joined.{FrontedRouter, event_given, joined_step}, Laws.{nobody_known, none_known}, Presence.{Present, looked}, declared.setting.OlderHosts.OlderHosts}}

-- A plane, and what the front between it and its router knows of older hosts.
pub record Fronted : Type 0 where
  pub plane : Plane
  pub present : Present

-- The front and the router.
abbrev pub front_and_router : Fronted → FrontedRouter
front_and_router f = record { present = f.present; state = f.plane.split.core }

-- Both after time passed.
abbrev pub advanced_to : ℕ → FrontedRouter → FrontedRouter
advanced_to m b = (joined_step b (advance_to m)).1

-- Both once notes are reported. The Advance to the timestamp of a note that is reported as a seen packet comes by the
-- front; `keep` and seen packets don't.
unfoldable pub after_notes : Way → FrontedRouter → List Notice → FrontedRouter
after_notes w b [] = b
after_notes w b (n ∷ ns) =
    after_notes w (record {
      present = (if is_kept w b.state n then b.present else (advanced_to n.moment b).present);
      state = told_note w b.state n;
    }) ns

-- Both once notes are reported and the present time.
abbrev pub after_catching_up : Fronted → List Notice → Way → FrontedRouter
after_catching_up f told w = advanced_to f.plane.split.now (after_notes w (front_and_router f) told)

-- Both when an event of the router's own comes.
unfoldable pub before_event : Fronted → Act → FrontedRouter
before_event f d =
    if goes_at_once f.plane.split d.at_once (event_of d).kind then after_notes d.way (front_and_router f) d.told
    else after_catching_up f d.told d.way

-- The event as it came is for the router.
abbrev pub is_the_routers : Fronted → Act → Bool
is_the_routers f d = is_for_core f.plane.split (known_then f.plane d) (event_of d)

-- An act whose event is another one.
abbrev pub with_event : Act → Event → Act
with_event d e = record d { turn = record (d.turn) { event = e } }

-- An act as the router is given it. What the plane takes itself doesn't come to the front.
unfoldable pub act_given : Fronted → Act → Act
act_given f d = if is_the_routers f d then with_event d (event_given (before_event f d) (event_of d)) else d

-- What an act leaves.
unfoldable pub fronted_after : Fronted → Act → Fronted
fronted_after f d = record {
  plane = (act f.plane (act_given f d)).0;
  present = (if is_the_routers f d then (joined_step (before_event f d) (event_of d)).1.present else f.present);
}

-- The plane reports its notes between events, and has the router advance to the present time.
unfoldable pub fronted_told : Fronted → List Notice → Way → Fronted
fronted_told f told w = record { plane = up_to_date f.plane told w; present = (after_catching_up f told w).present }

-- What a plane does, as its router is given it, and what is known of older hosts in the end.
unfoldable pub fronted : Fronted → List Doing → List Doing × Present
fronted f [] = ([], f.present)
fronted f (Doing.Takes d ∷ ds) =
    let later : List Doing × Present = fronted (fronted_after f d) ds in
    (Doing.Takes (act_given f d) ∷ later.0, later.1)
fronted f (Doing.Tells told w ∷ ds) =
    let later : List Doing × Present = fronted (fronted_told f told w) ds in
    (Doing.Tells told w ∷ later.0, later.1)

-- A plane beside a new router, without rows, and a front between them that knows of nobody.
abbrev pub fronted_at_opening : Config → ℕ → List OlderHosts → Fronted
fronted_at_opening c limit hosts = record { plane = plane_at_opening c; present = none_known limit hosts }

-- ---- a front and a router alone

-- An event before which a front and its router are told the present time again: the front drops the rows that don't
-- count any more, so that a full table has room.
unfoldable pub again_step : FrontedRouter → Event → Outcome × FrontedRouter
again_step b e = joined_step (joined_step b (advance_to b.state.present)).1 e

-- Events one after the other: their outcomes, and what is left.
unfoldable pub again_ran : FrontedRouter → List Event → List Outcome × FrontedRouter
again_ran b [] = ([], b)
again_ran b (e ∷ es) =
    let first : Outcome × FrontedRouter = again_step b e in
    let later : List Outcome × FrontedRouter = again_ran first.1 es in
    (first.0 ∷ later.0, later.1)

-- ---- laws

-- What is known at the present time.
abbrev pub known_now : State → Present → Present
known_now s p = looked s.group_records s.present p

-- Being told the present time again sends nothing, and has the front look at its rows.
abbrev pub TellingAgainOnlyLooks : Type 0
TellingAgainOnlyLooks = (b : FrontedRouter) → IsAtRest b.state → b.state.present ≤ last_moment
    → joined_step b (advance_to b.state.present)
    ≡ (nothing_sent, record { present = known_now b.state b.present; state = b.state })

-- A plane that keeps its duties in what its router is given sends with it what a front and a router alone send that are
-- told the present time again before each event, and both can catch up to the same.
abbrev pub PlaneBehindFrontIsSound : Type 0
PlaneBehindFrontIsSound = (c : Config) (limit : ℕ) (hosts : List OlderHosts) (acts : List Doing) (w : Way)
    → config_test c ≡ Ok tt
    → (let behind : List Doing × Present = fronted (fronted_at_opening c limit hosts) acts in
    AreRight (plane_at_opening c) behind.0
    → (let ran : List Outcome × Plane = acted (plane_at_opening c) behind.0 in
    let alone : List Outcome × FrontedRouter = again_ran (nobody_known limit hosts (opening c)) (events_in acts) in
    (ran.0 ≡ alone.0) × (kept_up w (ran.1).split ≡ alone.1.state)
    × (known_now alone.1.state behind.1 ≡ known_now alone.1.state alone.1.present)))

-- ---- each run is one of such a plane

-- A plane that reports its notes by their timestamps, reads no offer, and drops all offers.
unfoldable pub plain_behind : Fronted → List Event → List Doing
plain_behind f [] = []
plain_behind f (e ∷ es) = Doing.Takes (plain_act f.plane e) ∷ plain_behind (fronted_after f (plain_act f.plane e)) es

-- Any events may come to one.
abbrev pub PlainActsBehindAreRight : Type 0
PlainActsBehindAreRight = (c : Config) (limit : ℕ) (hosts : List OlderHosts) (events : List Event) → config_test c ≡ Ok tt
    → (let f : Fronted = fronted_at_opening c limit hosts in
    AreRight (plane_at_opening c) (fronted f (plain_behind f events)).0 × (events_in (plain_behind f events) ≡ events))
