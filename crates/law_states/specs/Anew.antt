-- A plane as it is documented, beside a router that is put under other configurations, by a map of places or without one,
-- and that is made again in a state that was saved. At any time the plane may read rows, and let rows go.
use Rattle.std.{specs.{List.AllByRecursion, Prelude.{Bool, List, None, Ok, Option, Some, [], false, if◌then◌else◌, is_some, nat_lt, slice_get, suc, true, unwrap_or, ℕ, ◌++◌, ◌||◌, ◌∷◌, ◌≡◌, ◌≤◌}}}
use Rattle.pim_types.{specs.{declared.{config.Config.Config, event.Event.Event, outcome.{Emission.Emission, Outcome.Outcome, Verdict.Verdict}}, Keys.source_key}}
use Rattle.pim_model.{specs.{Judging.last_moment, Limits.config_test, State.{State, opening}, Step.{run, state_after}, Tables.has_row}}
use Rattle.law_events.{specs.Rest.IsAtRest}
use Rattle.law_states.{specs.{Reload.config_of, Reloading.reload, Placing.{Places, reload_by}, Documented.{AreRight, Doing, IsTelling, acted, events_in, plain_act, plane_at_opening, up_to_date}, Guests.{AreHeld, Plane, asked, without}, Kept.{Way, kept_up}, Near.is_near}}
use Rattle.law_plane.{specs.{Offered.offered, Offload.{Row, told}, Split.{Notice, whole}, Staying.OffersAlike, ToldLaws.{DecideAlike, PlaneRows, no_plane_rows}}}

-- ---- rows

-- There is no row, or it decides as the router's.
abbrev pub DecidesAs : Option Row → Option Row → Type 0
DecidesAs None its = Unit {0}
DecidesAs (Some row) its = DecideAlike (Some row) its

-- Each row of a source with a fact that the plane holds decides as the router's.
abbrev pub AreSound : PlaneRows → State → Type 0
AreSound rows s = (g src : ℕ) → DecidesAs (rows g src) (told s g src)

-- The rows of sources with a fact, with those that the plane reads of the router.
abbrev pub read_of : (ℕ → ℕ → Bool) → State → PlaneRows → PlaneRows
read_of asks s rows g src = if asks g src then told s g src else rows g src

-- The plane reads what the router offers of some sources.
abbrev pub with_read : (ℕ → ℕ → Bool) → Plane → Plane
with_read asks y = record {
  split = record (y.split) { rows = read_of asks (y.split).core (y.split).rows };
  guests = asked asks (y.split).core y.guests;
}

-- The plane lets go of the rows of some sources: their packets are the router's, until it reads them again.
abbrev pub with_less : (ℕ → ℕ → Bool) → Plane → Plane
with_less drops y = record {
  split = record (y.split) { rows = without drops (y.split).rows };
  guests = without drops y.guests;
}

-- The plane beside a router that is made in a state. It has the rows that it reads then, and no others.
abbrev pub beside : (ℕ → ℕ → Bool) → State → Plane
beside asks s = with_read asks (record { split = whole s no_plane_rows; guests = no_plane_rows })

-- ---- another configuration

-- a reload by a map of places, or without one
abbrev pub reload_of : Option Places → State → Config → ℕ → State × List Emission
reload_of None s c w = reload s c w
reload_of (Some places) s c w = reload_by s places c w

-- A reload, and what the plane does about it.
pub record Reload : Type 0 where
  pub places : Option Places
  pub config : Config
  pub draw : ℕ
  -- the notes that it reports before, and how
  pub told : List Notice
  pub way : Way
  -- the sources whose rows it reads again after it, and those without a fact whose rows it lets go of
  pub changed : ℕ → ℕ → Bool
  pub differs : ℕ → ℕ → Bool

-- the router's state when the reload comes
abbrev pub before_reload : Plane → Reload → State
before_reload y l = ((up_to_date y l.told l.way).split).core

-- the router's state after it
abbrev pub after_reload : Plane → Reload → State
after_reload y l = (reload_of l.places (before_reload y l) l.config l.draw).0

abbrev pub put_under : Plane → Reload → Plane
put_under y l = record {
  split = whole (after_reload y l) (read_of l.changed (after_reload y l) (y.split).rows);
  guests = without l.differs y.guests;
}

-- A reload is done, and makes no copy.
abbrev pub reload_outcome : List Emission → Outcome
reload_outcome sent = record { answer = Ok Verdict.Done; emissions = sent; copies = 0 }

-- All sources with a fact in one of the states pass.
abbrev pub HasBoth : State → State → (ℕ → ℕ → Bool) → Type 0
HasBoth s t changed = (g src : ℕ)
    → (has_row s.sources (source_key 0 g src) || has_row t.sources (source_key 0 g src)) ≡ true
    → changed g src ≡ true

-- ---- what a router and its plane are given

pub data Stage : Type 0 where
  -- an event, or notes that are reported
  Does : Doing → Stage
  -- rows are read, or let go of
  Reads : (ℕ → ℕ → Bool) → Stage
  Drops : (ℕ → ℕ → Bool) → Stage
  Reloads : Reload → Stage
  -- the plane reports its notes, and the router is saved
  Saves : List Notice → Way → Stage
  -- the router is made again in the state of a save, the last of which is number 0; the plane has the rows that it then
  -- reads
  Restores : ℕ → (ℕ → ℕ → Bool) → Stage

-- a plane and its router, with the saved states, the last one first
pub record Standing : Type 0 where
  pub plane : Plane
  pub saved : List State

-- What is sent at a stage, as outcomes, and what is left.
unfoldable pub stage : Standing → Stage → List Outcome × Standing
stage z (Stage.Does d) =
    let after : List Outcome × Plane = acted z.plane (d ∷ []) in (after.0, record z { plane = after.1 })
stage z (Stage.Reads asks) = ([], record z { plane = with_read asks z.plane })
stage z (Stage.Drops drops) = ([], record z { plane = with_less drops z.plane })
stage z (Stage.Reloads l) = (
  reload_outcome (reload_of l.places (before_reload z.plane l) l.config l.draw).1 ∷ [],
  record z { plane = put_under z.plane l },
)
stage z (Stage.Saves told w) =
    let y : Plane = up_to_date z.plane told w in ([], record { plane = y; saved = (y.split).core ∷ z.saved })
stage z (Stage.Restores n asks) =
    ([], record z { plane = beside asks (unwrap_or (slice_get z.saved n) ((z.plane).split).core) })

unfoldable pub staged : Standing → List Stage → List Outcome × Standing
staged z [] = ([], z)
staged z (a ∷ later) =
    let first : List Outcome × Standing = stage z a in
    let rest : List Outcome × Standing = staged first.1 later in
    (first.0 ++ rest.0, rest.1)

-- ---- the router alone

-- a router that is given all events, with its saved states
pub record Alone : Type 0 where
  pub state : State
  pub saved : List State

unfoldable pub alone_stage : Alone → Stage → List Outcome × Alone
alone_stage r (Stage.Does d) =
    (run r.state (events_in (d ∷ [])), record r { state = state_after r.state (events_in (d ∷ [])) })
alone_stage r (Stage.Reads asks) = ([], r)
alone_stage r (Stage.Drops drops) = ([], r)
alone_stage r (Stage.Reloads l) = (
  reload_outcome (reload_of l.places r.state l.config l.draw).1 ∷ [],
  record r { state = (reload_of l.places r.state l.config l.draw).0 },
)
alone_stage r (Stage.Saves told w) = ([], record r { saved = r.state ∷ r.saved })
alone_stage r (Stage.Restores n asks) = ([], record r { state = unwrap_or (slice_get r.saved n) r.state })

unfoldable pub alone_staged : Alone → List Stage → List Outcome × Alone
alone_staged r [] = ([], r)
alone_staged r (a ∷ later) =
    let first : List Outcome × Alone = alone_stage r a in
    let rest : List Outcome × Alone = alone_staged first.1 later in
    (first.0 ++ rest.0, rest.1)

-- ---- the duties

-- What the plane owes at a reload: it reports its notes, reads all rows of sources with a fact again, of before and of
-- after, and lets go of what was offered of a source without one, unless the router answers that this can't differ.
pub record IsRightReload (y : Plane) (l : Reload) : Type 0 where
  pub accepted : config_test l.config ≡ Ok tt
  pub telling : IsTelling y.split l.told l.way
  pub all : HasBoth (before_reload y l) (after_reload y l) l.changed
  pub denied : (g src : ℕ) → l.differs g src ≡ false
      → OffersAlike (offered (before_reload y l) g src) (offered (after_reload y l) g src)

abbrev pub IsRightStage : Standing → Stage → Type 0
IsRightStage z (Stage.Does d) = AreRight z.plane (d ∷ [])
IsRightStage z (Stage.Reads asks) = Unit {0}
IsRightStage z (Stage.Drops drops) = Unit {0}
IsRightStage z (Stage.Reloads l) = IsRightReload z.plane l
IsRightStage z (Stage.Saves told w) = IsTelling (z.plane).split told w
IsRightStage z (Stage.Restores n asks) = is_some (slice_get z.saved n) ≡ true

-- all that the plane does keeps the duties of a plane
abbrev pub AreRightStages : Standing → List Stage → Type 0
AreRightStages z [] = Unit {0}
AreRightStages z (a ∷ later) = IsRightStage z a × AreRightStages (stage z a).1 later

-- ---- laws

-- the plane and its router send what the router alone sends, and the router can catch up to the same state
abbrev pub SendsAsAlone : Standing → Alone → List Stage → Way → Type 0
SendsAsAlone z r stages w =
    let ran : List Outcome × Standing = staged z stages in
    let alone : List Outcome × Alone = alone_staged r stages in
    (ran.0 ≡ alone.0) × (kept_up w ((ran.1).plane).split ≡ (alone.1).state)

-- a state in which events, reloads and reports leave a router
pub record IsFit (s : State) : Type 0 where
  pub rest : IsAtRest s
  pub early : s.present ≤ last_moment
  pub accepted : config_test (config_of s) ≡ Ok tt
  pub near : is_near s ≡ true

-- from any such state on, whatever rows the plane has, where each decides as the router's
abbrev pub SoundPlaneStaysSound : Type 0
SoundPlaneStaysSound = (s : State) (rows guests : PlaneRows) (saved : List State) (stages : List Stage) (w : Way)
    → IsFit s → AreSound rows s → AreHeld guests s → AllByRecursion IsFit saved
    → (let z : Standing = record { plane = record { split = whole s rows; guests = guests }; saved = saved } in
    AreRightStages z stages → SendsAsAlone z (record { state = s; saved = saved }) stages w)

-- a plane beside a new router, without rows
abbrev pub new_beside : Config → Standing
new_beside c = record { plane = plane_at_opening c; saved = [] }

-- over events, reports, reloads, saves and restores
abbrev pub DocumentedPlaneStaysSound : Type 0
DocumentedPlaneStaysSound = (c : Config) (stages : List Stage) (w : Way) → config_test c ≡ Ok tt
    → AreRightStages (new_beside c) stages
    → SendsAsAlone (new_beside c) (record { state = opening c; saved = [] }) stages w

-- Once the rows of sources with a fact before or after are read again, each row that the plane holds decides as the router's after a reload.
abbrev pub ReloadRestoresRows : Type 0
ReloadRestoresRows = (places : Option Places) (s : State) (c : Config) (w : ℕ) (rows : PlaneRows) (changed : ℕ → ℕ → Bool)
    → AreSound rows s → HasBoth s (reload_of places s c w).0 changed
    → AreSound (read_of changed (reload_of places s c w).0 rows) (reload_of places s c w).0

-- a reload leaves a state in which the law goes on
abbrev pub ReloadStaysFit : Type 0
ReloadStaysFit = (places : Option Places) (s : State) (c : Config) (w : ℕ) → config_test c ≡ Ok tt → IsFit s
    → IsFit (reload_of places s c w).0

-- ---- each run is one of such a plane

-- what a router alone is given
pub data Given : Type 0 where
  Happening : Event → Given
  -- another configuration, by a map of places or without one, with the draw of the reload
  Another : Option Places → Config → ℕ → Given
  Saved : Given
  -- made again in the state of a save, the last of which is number 0
  Again : ℕ → Given

-- What a plane does about it that reports its notes by their timestamps, reads all rows again after a reload and a restore,
-- and drops all offers.
abbrev pub plain_stage : Standing → Given → Stage
plain_stage z (Given.Happening e) = Stage.Does (Doing.Takes (plain_act z.plane e))
plain_stage z (Given.Another places c w) = Stage.Reloads (record {
  places = places;
  config = c;
  draw = w;
  told = ((z.plane).split).owed;
  way = record { keeps = λ n. true; draw = 0 };
  changed = λ g src. true;
  differs = λ g src. true;
})
plain_stage z Given.Saved = Stage.Saves ((z.plane).split).owed (record { keeps = λ n. true; draw = 0 })
plain_stage z (Given.Again n) = Stage.Restores n (λ g src. true)

unfoldable pub plain_stages : Standing → List Given → List Stage
plain_stages z [] = []
plain_stages z (a ∷ later) = plain_stage z a ∷ plain_stages (stage z (plain_stage z a)).1 later

-- Each configuration is accepted, and each restore is of a save; so many there are before.
abbrev pub AreGiven : ℕ → List Given → Type 0
AreGiven saves [] = Unit {0}
AreGiven saves (Given.Happening e ∷ later) = AreGiven saves later
AreGiven saves (Given.Another places c w ∷ later) = (config_test c ≡ Ok tt) × AreGiven saves later
AreGiven saves (Given.Saved ∷ later) = AreGiven (suc saves) later
AreGiven saves (Given.Again n ∷ later) = (nat_lt n saves ≡ true) × AreGiven saves later

abbrev pub PlainStagesAreRight : Type 0
PlainStagesAreRight = (c : Config) (given : List Given) → config_test c ≡ Ok tt → AreGiven 0 given
    → AreRightStages (new_beside c) (plain_stages (new_beside c) given)
