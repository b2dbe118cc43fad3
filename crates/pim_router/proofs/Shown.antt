-- What a router that works shows, by what its state says.
use Rattle.std.{proofs.Common.{◌≡◌, ◌≤◌, ◌<◌, ◌+◌, ℕ, Bool, false, List, Option, Some, None, option_map, option_and_then, Result, IsOk, IsTrue, IfSome, length, refl, ap, ◌∙◌, arith}, specs.Prelude.if◌then◌else◌}
use Rattle.pim_types.{specs.declared.{event.Event.Event, fact.Key.Key, outcome.{Emission.Emission, Outcome.Outcome}, timer.Timer.Timer}}
use Rattle.pim_model.{specs.{Cache.cached, Judging.judged, State.State, Step.{outcome_of, step}, Sure.needs_no_memory, Timers.{Ending, next_ending, next_moment}}}
use Rattle.pim_mfc.{specs.{declared.cache_row.CacheRow.CacheRow, Laws.TellsRow}}
use Rattle.pim_tables.{specs.Ends.due_of}
use Rattle.pim_event.{specs.Replacing.Disturbance, proofs.Taking.concluded_silently}
use Rattle.pim_router.{specs.Standing.{Shown, Standing, nothing_shown}}

-- ---- its state

-- what holds of its state holds of the state that it shows
pub stands : (shown : Shown) (failed : Bool) (r : Standing) (probes touched : ℕ) (changed : List Key) (disturbed : Disturbance)
    → (if failed then nothing_shown
    else record { standing = Some r; probes = probes; touched = touched; changed = changed; disturbed = disturbed }) ≡ shown
    → failed ≡ false → (P : State → Type 0) → P r.state → IfSome shown.standing (λ (x : Standing). P x.state)
stands shown failed r probes touched changed disturbed shows works P holds =
    let some = ap (λ (x : Shown). x.standing) (rw works at shows) in
    rw (← some) holds

-- ---- the row of a source

pub tells_shown : (shown : Shown) (failed : Bool) (r : Standing) (probes touched : ℕ) (changed : List Key) (disturbed : Disturbance)
    → (if failed then nothing_shown
    else record { standing = Some r; probes = probes; touched = touched; changed = changed; disturbed = disturbed }) ≡ shown
    → failed ≡ false → (row : Option CacheRow) (g src : ℕ) → TellsRow row (cached r.state g src)
    → IfSome shown.standing (λ (x : Standing). TellsRow row (cached x.state g src))
tells_shown shown failed r probes touched changed disturbed shows works row g src tells =
    let some = ap (λ (x : Shown). x.standing) (rw works at shows) in
    rw (← some) tells

-- ---- when the next timer expires

-- the moment of the first, as it is told
pub moment_told : (o : Option Ending) (due : ℕ × Timer) → Some due ≡ option_map due_of o
    → Some due.0 ≡ option_map (λ (e : Ending). e.end) o
moment_told None due e = cc
moment_told (Some d) due e = cc

pub shown_moment : (shown : Shown) (failed : Bool) (r : Standing) (probes touched : ℕ) (changed : List Key) (disturbed : Disturbance)
    → (if failed then nothing_shown
    else record { standing = Some r; probes = probes; touched = touched; changed = changed; disturbed = disturbed }) ≡ shown
    → failed ≡ false → (m : Option ℕ) → m ≡ option_map (λ (e : Ending). e.end) (next_ending r.state)
    → m ≡ option_and_then (λ (x : Standing). next_moment x.state) shown.standing
unfolding next_moment
shown_moment shown failed r probes touched changed disturbed shows works m is =
    let some = rw works at shows in
    is ∙ ap (λ (x : Shown). option_and_then (λ (y : Standing). next_moment y.state) x.standing) some

pub no_moment : (o : Option Ending) → None ≡ option_map due_of o → None ≡ option_map (λ (e : Ending). e.end) o
no_moment None e = refl
no_moment (Some d) e = cc

-- ---- what an event sends

-- an answer that needs no memory finds room for what it sends, which is nothing
pub finds_room : {A E : Type 0} (shown : Shown) (failed : Bool) (r : Standing) (probes touched : ℕ) (changed : List Key) (disturbed : Disturbance)
    (event : Event)
    (outcome : Outcome) (sent : List Emission) (taken_up room : ℕ) (q : Result A E)
    → (if failed then nothing_shown
    else record { standing = Some r; probes = probes; touched = touched; changed = changed; disturbed = disturbed }) ≡ shown
    → failed ≡ false → outcome ≡ outcome_of (step r.state event)
    → sent ≡ outcome.emissions → taken_up ≤ room → room < taken_up + length sent
    → IfSome shown.standing (λ x. IsTrue (needs_no_memory (step x.state event).answer) → IsOk q)
unfolding step
finds_room shown failed r probes touched changed disturbed event outcome sent taken_up room q shows works is are fits full =
    let some = ap (λ (x : Shown). x.standing) (rw works at shows) in
    rw (← some) (λ sure.
    let none : length sent ≡ 0 =
    ap (λ (es : List Emission). length es) (are ∙ ap (λ (o : Outcome). o.emissions) is
    ∙ concluded_silently r.state event.draw (judged r.state event.kind) sure) in
    absurd (omega (arith, none, fits, full)))
