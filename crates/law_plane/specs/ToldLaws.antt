-- Which rows an event changes: those of the named sources. A plane that is given these again has all rows.
use Rattle.std.{specs.Prelude.{List, None, Ok, Option, [], false, if◌then◌else◌, length, nat_lt, true, ℕ, ◌∷◌, ◌≡◌, ◌≤◌}}
use Rattle.pim_types.{specs.declared.{config.Config.Config, event.Event.Event, fact.Key.Key}}
use Rattle.pim_model.{specs.{Cache.answers, Clearing.clear, declared.accepted.Accepted.Accepted, Firing.fire_once, Limits.{config_test, most_ifaces}, Reach.own_firing, State.{State, opening}, Step.{change, done, state_after, step}, Timers.Ending}}
use Rattle.law_events.{specs.{Named.{event_named, is_source_named}, Kept.{SameAnswers, SameDecision, is_listed}}}
use Rattle.law_plane.{specs.Offload.{Row, decision, handled, told}}

-- the rows of a plane, by group and source
abbrev pub PlaneRows : Type 0
PlaneRows = ℕ → ℕ → Option Row

-- A data plane without rows.
abbrev pub no_plane_rows : PlaneRows
no_plane_rows g src = None

-- Two rows decide a packet alike on each interface that can be configured.
abbrev pub DecideAlike : Option Row → Option Row → Type 0
DecideAlike a b = (i : ℕ) → nat_lt i most_ifaces ≡ true → SameDecision (decision (handled a i)) (decision (handled b i))

-- The rows of a data plane decide as those that the state offers it.
abbrev pub AreTold : PlaneRows → State → Type 0
AreTold rows s = (g src : ℕ) → DecideAlike (rows g src) (told s g src)

-- The plane's rows with the listed ones given again, or withdrawn.
unfoldable pub told_anew : List Key → State → PlaneRows → PlaneRows
told_anew names s rows g src = if is_listed names g src then told s g src else rows g src

-- The row of a source that isn't named decides alike after an event.
abbrev pub UnnamedRowStays : Type 0
UnnamedRowStays = (s : State) (e : Event) → length s.configured.interfaces ≤ most_ifaces → (g src : ℕ)
    → is_listed (event_named s e) g src ≡ false → DecideAlike (told s g src) (told (step s e).state g src)

-- Where the named rows are given to the plane again, it has all rows.
abbrev pub StepKeepsTold : Type 0
StepKeepsTold = (s : State) (e : Event) (rows : PlaneRows) → length s.configured.interfaces ≤ most_ifaces → AreTold rows s
    → AreTold (told_anew (event_named s e) (step s e).state rows) (step s e).state

-- Giving the plane more rows than the named ones again does no harm.
abbrev pub MoreMayBeTold : Type 0
MoreMayBeTold = (s : State) (e : Event) (rows : PlaneRows) (names : List Key) → length s.configured.interfaces ≤ most_ifaces → AreTold rows s
    → ((g src : ℕ) → is_listed names g src ≡ false → is_listed (event_named s e) g src ≡ false)
    → AreTold (told_anew names (step s e).state rows) (step s e).state

-- The plane's rows after several events.
unfoldable pub told_at_end : State → List Event → PlaneRows → PlaneRows
told_at_end s [] rows = rows
told_at_end s (e ∷ es) rows =
    told_at_end (step s e).state es (told_anew (event_named s e) (step s e).state rows)

abbrev pub RouterKeepsTold : Type 0
RouterKeepsTold = (c : Config) (events : List Event) → config_test c ≡ Ok tt
    → AreTold (told_at_end (opening c) events no_plane_rows) (state_after (opening c) events)

-- The answers of any source that an event doesn't name are unchanged: also of a source without a fact, of which there
-- is no row and none is named.
abbrev pub UnnamedAnswersStay : Type 0
UnnamedAnswersStay = (s : State) (w : ℕ) (a : Accepted) → length s.configured.interfaces ≤ most_ifaces → (g src : ℕ)
    → is_source_named g src s (clear s (change s w a).state).0 ≡ false
    → SameAnswers (answers s g src) (answers (done s w (change s w a)).state g src)

-- The answers of any source that isn't named are unchanged by the expiry of a timer, and by the present time alone.
abbrev pub FiringAnswersStay : Type 0
FiringAnswersStay = (s : State) (w : ℕ) (e : Ending) → length s.configured.interfaces ≤ most_ifaces → (g src : ℕ)
    → is_source_named g src s (clear s (own_firing s e)).0 ≡ false
    → SameAnswers (answers s g src) (answers (fire_once w s e).0 g src)

abbrev pub TimeAnswersStay : Type 0
TimeAnswersStay = (s : State) (m g src : ℕ) → answers (record s { present = m }) g src ≡ answers s g src
