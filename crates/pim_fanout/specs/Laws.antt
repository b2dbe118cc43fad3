-- Which sources an event names, and how rows that are evaluated again for them are those of the state.
use Rattle.std.{specs.{List.Sorted.IsStrictlySortedBy, Prelude.{List, [], false, length, true, ℕ, ◌||◌, ◌≡◌, ◌≤◌}}}
use Rattle.pim_ip.{specs.Ipv4.Packet}
use Rattle.pim_types.{specs.{declared.{config.Config.Config, event.Event.Event, fact.Key.Key}, Keys.{key_cmp, source_key}}}
use Rattle.pim_model.{specs.{Cache.{Plain, cached}, Clearing.clear, declared.accepted.Accepted.Accepted, Firing.fire_once, Limits.most_ifaces, Reach.{differs_among, own_firing, passes}, State.{State, opening}, Step.{change, done, step}, Tables.{Table, has_row}, Timers.Ending}}
use Rattle.law_events.{specs.{Locality.IsQuiet, Rest.IsAtRest, Calm.is_calm, Keeps.KeepsAnswers, Named.{is_source_named, named_by}, Decided.IsDecided, Kept.{is_listed, refreshed}}}
use Rattle.pim_state.{specs.declared.touched.Touched.Touched}
use Rattle.pim_macros.{specs.declared.rows.SourceAnswers.SourceAnswers}
use Rattle.pim_mfc.{specs.Laws.ShowsRows}
use Rattle.pim_fanout.{specs.{Contains.{Contains, CoversOrMoves}, Disturbed.is_disturbed, Named.named_among}}

-- ---- who is named

-- The sources that are named where the opening is compared with the state after clearing.
abbrev pub names_of : State → State → Touched → List Key
names_of o changed touched = named_among o (clear o changed).0 touched

-- Each named source is listed once.
abbrev pub NamesRise : Type 0
NamesRise = (o a : State) (touched : Touched) → IsStrictlySortedBy key_cmp (named_among o a touched)

-- From a quiet state, the sources that are named among the touched ones are those that are named among all.
abbrev pub NamesAreNamed : Type 0
NamesAreNamed = (o : State) → IsQuiet o → (touched : Touched) (changed : State) → Contains touched o changed → (g src : ℕ)
    → is_listed (names_of o changed touched) g src ≡ is_listed (named_by o changed) g src

-- Where routes and RP ranges are as they were, and the change isn't one of neighbours, a source that it doesn't touch
-- isn't named, whether it has a fact or not.
abbrev pub UntouchedIsUnnamed : Type 0
UntouchedIsUnnamed = (o changed : State) → IsQuiet o → (touched : Touched) → CoversOrMoves touched o changed → (g src : ℕ)
    → o.routes ≡ changed.routes → o.ranges ≡ changed.ranges → is_disturbed touched g src ≡ false
    → is_source_named g src o (clear o changed).0 ≡ false

-- No more sources are named among the touched ones than among all.
abbrev pub NamesAreFew : Type 0
NamesAreFew = (o changed : State) (touched : Touched)
    → length (names_of o changed touched) ≤ length (named_by o changed)

-- Where no interface row and no neighbour row differs, only sources that the event reaches are named.
abbrev pub NamesAreReached : Type 0
NamesAreReached = (s : State) (w : ℕ) (a : Accepted) → is_calm s (change s w a).state ≡ true → (touched : Touched)
    → (g src : ℕ) → is_listed (names_of s (change s w a).state touched) g src ≡ true
    → differs_among g src (passes s (change s w a).state) ≡ true

abbrev pub FiredNamesAreReached : Type 0
FiredNamesAreReached = (s : State) (e : Ending) → is_calm s (own_firing s e) ≡ true → (touched : Touched)
    → (g src : ℕ) → is_listed (names_of s (own_firing s e) touched) g src ≡ true
    → differs_among g src (passes s (own_firing s e)) ≡ true

-- ---- who isn't

-- (S,G) has a source fact in one of two states
abbrev pub HasFact : ℕ → ℕ → State → State → Type 0
HasFact g src o a =
    (has_row o.sources (source_key 0 g src) || has_row a.sources (source_key 0 g src)) ≡ true

-- A source with a fact that an event doesn't name keeps SPTbit, CouldRegister, the states of its register fact and of
-- both its asserts, and every macro, to the end of the event.
abbrev pub UnnamedSourcesKeepTheirAnswers : Type 0
UnnamedSourcesKeepTheirAnswers = (s : State) → IsQuiet s → length s.configured.interfaces ≤ most_ifaces → (w : ℕ) (a : Accepted) (touched : Touched)
    → Contains touched s (change s w a).state → (g src : ℕ) → HasFact g src s (done s w (change s w a)).state
    → is_listed (names_of s (change s w a).state touched) g src ≡ false
    → KeepsAnswers g src s (done s w (change s w a)).state

-- A source with a fact that the expiry of a timer doesn't name keeps what `UnnamedSourcesKeepTheirAnswers` lists.
abbrev pub ExpiryKeepsUnnamedSources : Type 0
ExpiryKeepsUnnamedSources = (s : State) → IsQuiet s → length s.configured.interfaces ≤ most_ifaces → (w : ℕ) (e : Ending) (touched : Touched)
    → Contains touched s (own_firing s e) → (g src : ℕ) → HasFact g src s (fire_once w s e).0
    → is_listed (names_of s (own_firing s e) touched) g src ≡ false → KeepsAnswers g src s (fire_once w s e).0

-- ---- the rows

-- The opening has no rows.
abbrev pub OpeningShowsRows : Type 0
OpeningShowsRows = (c : Config) → ShowsRows [] (cached (opening c))

-- Where the named rows of the state before an event are evaluated again, the rows are those of the state after it.
abbrev pub EventShowsRows : Type 0
EventShowsRows = (s : State) → IsQuiet s → length s.configured.interfaces ≤ most_ifaces → (w : ℕ) (a : Accepted)
    → (touched : Touched) → Contains touched s (change s w a).state → (rows : Table SourceAnswers)
    → (let after : State = (done s w (change s w a)).state in
    ShowsRows rows (refreshed (names_of s (change s w a).state touched) after (cached s))
    → ShowsRows rows (cached after))

-- Where the named rows of the state before the expiry of a timer are evaluated again, the rows are those of the state
-- after it.
abbrev pub FiringShowsRows : Type 0
FiringShowsRows = (s : State) → IsQuiet s → length s.configured.interfaces ≤ most_ifaces → (w : ℕ) (e : Ending)
    → (touched : Touched) → Contains touched s (own_firing s e) → (rows : Table SourceAnswers)
    → (let after : State = (fire_once w s e).0 in
    ShowsRows rows (refreshed (names_of s (own_firing s e) touched) after (cached s)) → ShowsRows rows (cached after))

-- A packet that the answers of its source decide leaves the rows those of the state.
abbrev pub PlainShowsRows : Type 0
PlainShowsRows = (s : State) (e : Event) (p : Packet) (how : Plain) → IsAtRest s → IsDecided s e p how
    → (rows : Table SourceAnswers) → ShowsRows rows (cached s) → ShowsRows rows (cached (step s e).state)

-- The cache's rows are those of the state after the present time alone changed.
abbrev pub PresentShowsRows : Type 0
PresentShowsRows = (s : State) (m : ℕ) → length s.configured.interfaces ≤ most_ifaces → (rows : Table SourceAnswers)
    → ShowsRows rows (cached s) → ShowsRows rows (cached (record s { present = m }))
