-- What the reach of an event implies for what the macros read, and for the sources that are named.
use Rattle.std.{specs.{List.{list_all, list_any, Sorted.IsStrictlySortedBy}, Prelude.{List, Some, false, length, true, ℕ, ◌==◌, ◌≡◌, ◌≤◌}}}
use Rattle.pim_types.{specs.{declared.{config.{Route.Route, RpTable.RpTable}, event.Event.Event, fact.Key.Key}, Keys.{key_cmp, same_key, source_key}}}
use Rattle.pim_model.{specs.{Clearing.clear, declared.accepted.Accepted.Accepted, Firing.{fire_all, fire_once}, Limits.most_ifaces, Reach.{differs_among, event_reach, agrees_for_source, keeps_neighbours, own_firing, passes, reach, reach_of, told_all}, Rows.{same_both, same_register_state}, Sets.{Set, is_kept_alive, register_state}, State.State, Step.{change, done, step, taken}, Tables.has_row, Timers.Ending}}
use Rattle.law_settled.{specs.Ready.IsLawful}
use Rattle.law_events.{specs.{Events.touched_by_event, Locality.{AgreesBut, IsQuiet, touching}, Sees.SeesSource, Touches.{isnt_neighbour, touched_by}, Calm.{is_calm, is_calm_event}, Keeps.KeepsAnswers, Named.{IsMask, event_named, is_source_named, is_rerouted, named_by, named_of, named_where, same_set}}}

-- Where nothing differs that counts for a source, its macros read the same.
abbrev pub UnreachedSees : Type 0
UnreachedSees = (g src : ℕ) (s t : State) → s.settings ≡ t.settings → s.configured ≡ t.configured
    → keeps_neighbours s t ≡ true → agrees_for_source g src s t ≡ true → SeesSource g src s t

-- What is the same of a source that isn't reached: all that its macros read, and its facts but for when timers expire.
pub record IsUnreached (g src : ℕ) (s t : State) : Type 0 where
  pub sees : SeesSource g src s t
  pub fact : has_row s.sources (source_key 0 g src) ≡ has_row t.sources (source_key 0 g src)
  pub kept_alive : is_kept_alive s g src ≡ is_kept_alive t g src
  pub register : same_both same_register_state (register_state s g src) (register_state t g src) ≡ true

-- A source that isn't reached is the same where no interface row and no neighbour row differs.
abbrev pub UnreachedIsSame : Type 0
UnreachedIsSame = (s : State) (w : ℕ) (a : Accepted) → is_calm s (change s w a).state ≡ true → (g src : ℕ)
    → differs_among g src (passes s (change s w a).state) ≡ false
    → IsUnreached g src s (clear s (change s w a).state).0

-- Where no interface row and no neighbour row differs, a source that an event's own change names is reached, so no more
-- are named than are reached.
abbrev pub NamedIsReached : Type 0
NamedIsReached = (s : State) (w : ℕ) (a : Accepted) → is_calm s (change s w a).state ≡ true → (g src : ℕ)
    → is_source_named g src s (clear s (change s w a).state).0 ≡ true
    → differs_among g src (passes s (change s w a).state) ≡ true

-- Where no interface row and no neighbour row differs after an accepted event, no more sources are named than are
-- reached; for an Advance over all its timers.
abbrev pub NamedAreFew : Type 0
NamedAreFew = (s : State) → IsLawful s → (w : ℕ) (a : Accepted) → keeps_neighbours s (taken s w a).state ≡ true
    → length (named_of s w a) ≤ length (reach_of s w a)

-- Where no interface row and no neighbour row differs after any event, no more sources are named than are reached.
abbrev pub EventNamesFew : Type 0
EventNamesFew = (s : State) → IsLawful s → (e : Event) → keeps_neighbours s (step s e).state ≡ true
    → length (event_named s e) ≤ length (event_reach s e)

-- Where no interface row and no neighbour row differs, a source that the expiry of a timer names is reached.
abbrev pub FiredIsReached : Type 0
FiredIsReached = (s : State) (e : Ending) → is_calm s (own_firing s e) ≡ true → (g src : ℕ)
    → is_source_named g src s (clear s (own_firing s e)).0 ≡ true → differs_among g src (passes s (own_firing s e)) ≡ true

abbrev pub FiredAreFew : Type 0
FiredAreFew = (s : State) (e : Ending) → is_calm s (own_firing s e) ≡ true
    → length (named_by s (own_firing s e)) ≤ length (reach s (own_firing s e))

-- a source that isn't named keeps its answers
abbrev pub UnnamedKeeps : Type 0
UnnamedKeeps = (g src : ℕ) (o a : State) → o.settings ≡ a.settings → o.configured ≡ a.configured
    → length o.configured.interfaces ≤ most_ifaces → is_source_named g src o a ≡ false → KeepsAnswers g src o a

-- A source that isn't named keeps its answers to the end of an event, and through the expiry of a timer.
abbrev pub EventKeeps : Type 0
EventKeeps = (s : State) (w : ℕ) (a : Accepted) → length s.configured.interfaces ≤ most_ifaces → (g src : ℕ)
    → is_source_named g src s (clear s (change s w a).state).0 ≡ false
    → KeepsAnswers g src s (done s w (change s w a)).state

abbrev pub FiringKeeps : Type 0
FiringKeeps = (s : State) (w : ℕ) (e : Ending) → length s.configured.interfaces ≤ most_ifaces → (g src : ℕ)
    → is_source_named g src s (clear s (own_firing s e)).0 ≡ false → KeepsAnswers g src s (fire_once w s e).0

-- From a quiet state, the sources that are named among those that an event touches are all that it names.
abbrev pub TouchedNames : Type 0
TouchedNames = (s : State) → IsQuiet s → (w : ℕ) (a : Accepted) (keys : List Key) → touched_by_event s a ≡ Some keys
    → named_by s (change s w a).state ≡ named_where (touching keys) s (change s w a).state

-- From a quiet state, the sources that are named among those that the expiry of a timer touches are all that it names.
abbrev pub FiredNames : Type 0
FiredNames = (s : State) → IsQuiet s → (e : Ending) → isnt_neighbour e.timer.kind ≡ true
    → named_by s (own_firing s e)
    ≡ named_where (touching (touched_by e.timer.kind e.timer.key)) s (own_firing s e)

-- From a quiet state, the sources that are named among those that any change touches are all that it names.
abbrev pub TouchedAlone : Type 0
TouchedAlone = (keys : List Key) (o changed : State) → IsQuiet o → AgreesBut (touching keys) o changed
    → named_by o changed ≡ named_where (touching keys) o changed

-- From a quiet state, new routes or new RP ranges name no sources but those of which a route or the RP differs.
abbrev pub RoutesName : Type 0
RoutesName = (s : State) → IsQuiet s → (w : ℕ) (routes : List Route)
    → (let c : State = (change s w (Accepted.Routes routes)).state in
    named_by s c ≡ named_where (is_rerouted s c) s c)

abbrev pub RpsName : Type 0
RpsName = (s : State) → IsQuiet s → (w : ℕ) (ranges : RpTable)
    → (let c : State = (change s w (Accepted.Rps ranges)).state in
    named_by s c ≡ named_where (is_rerouted s c) s c)

-- What is listed for each timer that expires in an Advance is listed by the states that these leave.
abbrev pub ToldFires : Type 0
ToldFires = (told : State → State → List Key) (w moment : ℕ) (s : State)
    → (told_all told w moment s).0 ≡ (fire_all w moment s).0

-- Where no interface row and no neighbour row differs at the end of an event, none differs in between.
abbrev pub EventIsCalm : Type 0
EventIsCalm = (s : State) → IsLawful s → (w : ℕ) (a : Accepted) → keeps_neighbours s (taken s w a).state ≡ true
    → is_calm_event s w a ≡ true

-- The source facts at the end of an event are those that clearing leaves.
abbrev pub EventFacts : Type 0
EventFacts = (s : State) (w : ℕ) (a : Accepted)
    → ((clear s (change s w a).state).0).sources ≡ ((done s w (change s w a)).state).sources

-- The source facts after the expiry of a timer are those that clearing leaves.
abbrev pub FiringFacts : Type 0
FiringFacts = (s : State) (w : ℕ) (e : Ending) → ((clear s (own_firing s e)).0).sources ≡ ((fire_once w s e).0).sources

-- Two sets that are kept as masks are equal where the masks are.
abbrev pub SameMasks : Type 0
SameMasks = (m n : ℕ) (f h : Set) → IsMask m f → IsMask n h → (m == n) ≡ same_set f h

-- Keys that rise are no more than those of a list that has all of them, so a bound holds of the named ones in any
-- order.
abbrev pub RisingWithin : Type 0
RisingWithin = (xs ys : List Key) → IsStrictlySortedBy key_cmp xs
    → list_all (λ k. list_any (same_key k) ys) xs ≡ true → length xs ≤ length ys
