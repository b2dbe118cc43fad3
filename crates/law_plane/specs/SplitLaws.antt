-- A split data plane is sound: it sends what a router sends that gets every packet as an event, and its core can catch
-- up to the same state at any time.
use Rattle.std.{specs.{List.{AllByRecursion, list_any}, Option.option_map_or, Prelude.{List, Ok, [], false, length, map, nat_lt, true, ℕ, ◌∷◌, ◌≡◌, ◌≤◌}}}
use Rattle.pim_ip.{specs.Ipv4.Packet}
use Rattle.pim_types.{specs.{declared.{config.Config.Config, event.Event.Event, outcome.Outcome.Outcome}, Keys.same_key}}
use Rattle.law_settled.{specs.Laws.ends_after}
use Rattle.pim_model.{specs.{Cache.Plain, Judging.last_moment, Limits.{config_test, most_ifaces}, Plain.fact_key, State.{State, opening}, Step.{run, state_after, step}, Timers.next_moment}}
use Rattle.law_events.{specs.{Rest.IsAtRest, Decided.IsDecided}}
use Rattle.law_plane.{specs.{Split.{Notice, Split, advance_to, caught_up, replayed, split_ran, whole}, ToldLaws.{AreTold, PlaneRows, no_plane_rows}}}

-- Where the plane has the rows of a state, it has the same answers, emissions and counts, event by event.
abbrev pub SplitSends : Type 0
SplitSends = (s : State) (rows : PlaneRows) (events : List Event) → IsAtRest s → s.present ≤ last_moment
    → length s.configured.interfaces ≤ most_ifaces → AreTold rows s → (split_ran (whole s rows) events).0 ≡ run s events

-- Once the core has heard of what is owed, it is in the same state.
abbrev pub SplitCatchesUp : Type 0
SplitCatchesUp = (s : State) (rows : PlaneRows) (events : List Event) → IsAtRest s → s.present ≤ last_moment
    → length s.configured.interfaces ≤ most_ifaces → AreTold rows s
    → caught_up (split_ran (whole s rows) events).1 ≡ state_after s events

-- The plane has the rows of its core after each event.
abbrev pub SplitIsTold : Type 0
SplitIsTold = (s : State) (rows : PlaneRows) (events : List Event) → IsAtRest s → s.present ≤ last_moment
    → length s.configured.interfaces ≤ most_ifaces → AreTold rows s
    → AreTold ((split_ran (whole s rows) events).1).rows (state_after s events)

-- The laws of a split data plane hold from the opening on, with no rows.
abbrev pub SplitRouterIsSound : Type 0
SplitRouterIsSound = (c : Config) (events : List Event) → config_test c ≡ Ok tt
    → ((split_ran (whole (opening c) no_plane_rows) events).0 ≡ run (opening c) events)
    × (caught_up (split_ran (whole (opening c) no_plane_rows) events).1 ≡ state_after (opening c) events)

-- ---- what is owed

-- A plane owes its core at most one notice of each source.
abbrev pub NamesEachOnce : List Notice → Type 0
NamesEachOnce [] = Unit {0}
NamesEachOnce (n ∷ ns) = (list_any (λ (o : Notice). same_key n.source o.source) ns ≡ false) × NamesEachOnce ns

abbrev pub SplitOwesOneEach : Type 0
SplitOwesOneEach = (s : State) (rows : PlaneRows) (events : List Event)
    → NamesEachOnce ((split_ran (whole s rows) events).1).owed

-- No timer expires by a timestamp that is before the core's next.
abbrev pub QuietBeforeNext : Type 0
QuietBeforeNext = (m : ℕ) (s : State) → ends_after m s ≡ option_map_or (nat_lt m) (next_moment s) true

-- What the core sends as it catches up are copies of packets, which the plane has sent.
abbrev pub CatchesUpInCopies : Type 0
CatchesUpInCopies = (s : State) (rows : PlaneRows) (events : List Event) → IsAtRest s → s.present ≤ last_moment
    → length s.configured.interfaces ≤ most_ifaces → AreTold rows s
    → (let x : Split = (split_ran (whole s rows) events).1 in
    AllByRecursion (λ (o : Outcome). o.copies ≡ length o.emissions) (run x.core (replayed x.now x.owed)))

-- The data events of what is owed, all at the present time and not at the packets' own timestamps.
abbrev pub packets_of : List Notice → List Event
packets_of owed = map (λ (n : Notice). n.packet) owed

-- The state of a core that hears late of what is owed, all at the present time.
abbrev pub caught_late : Split → State
caught_late x = state_after x.core (advance_to x.now ∷ packets_of x.owed)

-- A core that hears late is in the state of a router to which these packets came once more.
abbrev pub LateIsOnceMore : Type 0
LateIsOnceMore = (s : State) (rows : PlaneRows) (events : List Event) → IsAtRest s → s.present ≤ last_moment
    → length s.configured.interfaces ≤ most_ifaces → AreTold rows s
    → (let x : Split = (split_ran (whole s rows) events).1 in
    caught_late x ≡ state_after (state_after s events) (packets_of x.owed))

-- ---- plain packets with one timestamp, in any order and number

abbrev pub PlainInAnyOrder : Type 0
PlainInAnyOrder = (s : State) (e f : Event) (p q : Packet) (how where_to : Plain) → IsAtRest s → IsDecided s e p how
    → IsDecided s f q where_to → state_after s (e ∷ f ∷ []) ≡ state_after s (f ∷ e ∷ [])

-- Of plain packets of one source with one timestamp the last is enough.
abbrev pub PlainOnceIsEnough : Type 0
PlainOnceIsEnough = (s : State) (e f : Event) (p q : Packet) (how where_to : Plain) → IsAtRest s → IsDecided s e p how
    → IsDecided s f q where_to → same_key (fact_key q) (fact_key p) ≡ true → where_to.keeps ≡ true
    → state_after s (e ∷ f ∷ []) ≡ (step s f).state
