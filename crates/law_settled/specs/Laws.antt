-- What holds of the definitions for every state.
use Rattle.std.{specs.{List.{list_all, list_any}, Prelude.{Bool, Err, List, None, Ok, Option, Some, [], false, if◌then◌else◌, nat_le, nat_lt, true, ℕ, ◌&&◌, ◌≡◌, ◌≤◌}}}
use Rattle.pim_ip.{specs.declared.refusal.Refusal.Refusal}
use Rattle.pim_types.{specs.{declared.{config.Config.Config, event.Event.Event, fact.{Key.Key, QuerierRow.QuerierRow}, outcome.{Ignored.Ignored, Verdict.Verdict}}, Keys.{group_in, iface_in, iface_key, is_of_group, same_key, source_in, source_key, star_key}}}
use Rattle.pim_model.{specs.{Clearing.{Cleared, clear_all, cleared, to_clear}, Firing.{fire_all, fire_instant, fire_once}, Limits.config_test, Repeat.and_then, State.{State, opening}, Step.{Answered, advanced, step}, Desires.join_desired_star, Tables.{ascending, is_among}, Timers.{Ending, next_due, next_ending, timers}, Upstream.fact_keys}}

-- clearing leaves nothing that must go
abbrev pub ClearingIsComplete : Type 0
ClearingIsComplete = (o s : State) → to_clear o (clear_all o s).0 ≡ None

-- the first fact that must go goes, and then the rest, the messages in that order
abbrev pub ClearingGoesOn : Type 0
ClearingGoesOn = (o s : State) (c : Cleared) → to_clear o s ≡ Some c
    → clear_all o s ≡ and_then (to_clear o) cleared (clear_all o) (cleared s c)

-- an answer that leaves the state as it was, and sends nothing
abbrev pub IsUnchanged : State → Answered → Type 0
IsUnchanged s a = (a.state ≡ s) × (a.emissions ≡ []) × (a.copies ≡ 0)

-- a refused event
abbrev pub RefusedEventChangesNothing : Type 0
RefusedEventChangesNothing =
    (s : State) (e : Event) (refusal : Refusal) → (step s e).answer ≡ Err refusal → IsUnchanged s (step s e)

-- an ignored event
abbrev pub IgnoredEventChangesNothing : Type 0
IgnoredEventChangesNothing =
    (s : State) (e : Event) (reason : Ignored) → (step s e).answer ≡ Ok (Verdict.Ignored reason)
    → IsUnchanged s (step s e)

-- ---- firing

-- an entry is under a key of (*,G), of (S,G), of an interface
abbrev pub is_under_star : {R : Type 0} → Key × R → Bool
is_under_star e = same_key (star_key (iface_in e.0) (group_in e.0)) e.0

-- A row is under the key of a source of a group.
abbrev pub is_under_source : {R : Type 0} → Key × R → Bool
is_under_source e = same_key (source_key (iface_in e.0) (group_in e.0) (source_in e.0)) e.0

-- a querier whose robustness and query interval aren't 0
abbrev pub is_querier_entry : Key × QuerierRow → Bool
is_querier_entry e =
    same_key (iface_key (iface_in e.0)) e.0 && (nat_lt 0 (e.1).robustness && nat_lt 0 (e.1).query_interval)

-- What firing requires of a state: no robustness and no interval is 0, and IGMP's facts are under keys of their kind.
pub record IsFirable (s : State) : Type 0 where
  pub robustness : nat_lt 0 s.settings.robustness ≡ true
  pub query_interval : nat_lt 0 s.settings.query_interval ≡ true
  pub last_member_query_interval : nat_lt 0 s.settings.last_member_query_interval ≡ true
  pub queriers : list_all is_querier_entry s.queriers ≡ true
  pub group_records : list_all is_under_star s.group_records ≡ true
  pub source_records : list_all is_under_source s.source_records ≡ true
  pub group_repeats : list_all is_under_star s.group_repeats ≡ true
  pub source_repeats : list_all is_under_star s.source_repeats ≡ true

-- Every timer expires later than a timestamp, or at it at the earliest.
abbrev pub ends_after : ℕ → State → Bool
ends_after m s = list_all (λ (e : Ending). nat_lt m e.end) (timers s)

-- No timer of the state expires before a timestamp.
abbrev pub ends_from : ℕ → State → Bool
ends_from m s = list_all (λ (e : Ending). nat_le m e.end) (timers s)

-- The state is at timestamp m, and no timer should have expired before.
pub record IsReady (m : ℕ) (s : State) : Type 0 where
  pub firable : IsFirable s
  pub present : s.present ≡ m
  pub ends : ends_from m s ≡ true

-- The state is at timestamp m, and all timers that are due by then have expired.
pub record IsAhead (m : ℕ) (s : State) : Type 0 where
  pub firable : IsFirable s
  pub present : s.present ≡ m
  pub ends : ends_after m s ≡ true

abbrev pub AheadIsReady : Type 0
AheadIsReady = (m : ℕ) (s : State) → IsAhead m s → IsReady m s

abbrev pub ReadyAtPresent : Type 0
ReadyAtPresent = (m : ℕ) (s : State) → IsReady m s → IsReady s.present s

-- ---- the next timer

abbrev pub NextIsDue : Type 0
NextIsDue = (m : ℕ) (s : State) (e : Ending) → next_due m s ≡ Some e → e.end ≤ m

abbrev pub NextIsLeast : Type 0
NextIsLeast = (m : ℕ) (s : State) (e : Ending) → next_due m s ≡ Some e → ends_from e.end s ≡ true

-- a timer that expires, if there is one and it is due by a timestamp
abbrev pub due_by : ℕ → Option Ending → Option Ending
due_by m None = None
due_by m (Some e) = if nat_le e.end m then Some e else None

-- The timer that an Advance fires next is the one that expires first, if that one is due.
abbrev pub NextIsNextEnding : Type 0
NextIsNextEnding = (m : ℕ) (s : State) → next_due m s ≡ due_by m (next_ending s)

-- The timer that an Advance fires next is also the next one of an Advance that ends when it expires.
abbrev pub NextIsFirst : Type 0
NextIsFirst = (m : ℕ) (s : State) (e : Ending) → next_due m s ≡ Some e → next_due e.end s ≡ Some e

-- ---- an instant

-- The expiry of one timer within an instant leaves none that expires earlier.
abbrev pub OneFiringKeeps : Type 0
OneFiringKeeps = (w : ℕ) (s : State) (e d : Ending) → IsFirable s → ends_from e.end s ≡ true → next_due e.end s ≡ Some d
    → IsReady e.end (fire_once w s d).0

-- An instant goes on by the expiry of one timer, the emissions in that order, until nothing is due.
abbrev pub InstantGoesOn : Type 0
InstantGoesOn = (w : ℕ) (s : State) (e d : Ending) → IsFirable s → ends_from e.end s ≡ true → next_due e.end s ≡ Some d
    → fire_instant w s e ≡ and_then (next_due e.end) (fire_once w) (λ t. fire_instant w t e) (fire_once w s d)

abbrev pub InstantStops : Type 0
InstantStops = (w : ℕ) (s : State) (e : Ending) → next_due e.end s ≡ None → fire_instant w s e ≡ (s, [])

-- After the instant of the next timer all timers expire later.
abbrev pub InstantIsComplete : Type 0
InstantIsComplete = (w m : ℕ) (s : State) (e : Ending) → IsFirable s → next_due m s ≡ Some e
    → IsAhead e.end (fire_instant w s e).0

-- ---- all timers that are due by the end of an Advance

-- An Advance goes on by one instant, the emissions in that order, until nothing is due.
abbrev pub FiringGoesOn : Type 0
FiringGoesOn = (w m : ℕ) (s : State) (e : Ending) → IsReady s.present s → next_due m s ≡ Some e
    → fire_all w m s ≡ and_then (next_due m) (fire_instant w) (λ t. fire_all w m t) (fire_instant w s e)

-- An Advance goes on by the expiry of one timer, the emissions in that order, until nothing is due.
abbrev pub FiringGoesOnByOne : Type 0
FiringGoesOnByOne = (w m : ℕ) (s : State) (e : Ending) → IsReady s.present s → next_due m s ≡ Some e
    → fire_all w m s ≡ and_then (next_due m) (fire_once w) (λ t. fire_all w m t) (fire_once w s e)

abbrev pub FiringStops : Type 0
FiringStops = (w m : ℕ) (s : State) → next_due m s ≡ None → fire_all w m s ≡ (s, [])

-- After firing nothing is due, and time can go on.
abbrev pub FiringIsComplete : Type 0
FiringIsComplete = (w m : ℕ) (s : State) → IsReady s.present s → next_due m (fire_all w m s).0 ≡ None

abbrev pub FiringIsAhead : Type 0
FiringIsAhead = (w m : ℕ) (s : State) → IsReady s.present s → ends_after m (fire_all w m s).0 ≡ true

abbrev pub AdvancedIsAhead : Type 0
AdvancedIsAhead = (w m : ℕ) (s : State) → IsReady s.present s → IsAhead m (advanced s w m).state

-- ---- the opening

-- With an accepted configuration the opening is a state from which time can go on.
abbrev pub OpeningIsAhead : Type 0
OpeningIsAhead = (c : Config) → config_test c ≡ Ok tt → IsAhead 0 (opening c)

-- ---- groups and their order

-- Two ascending lists of numbers are equal where they have the same members, and ordering them a second time changes
-- nothing.
abbrev pub MembersTell : Type 0
MembersTell =
    (xs ys : List ℕ) → ((n : ℕ) → is_among n (ascending xs) ≡ is_among n (ascending ys)) → ascending xs ≡ ascending ys

abbrev pub AscendingAgain : Type 0
AscendingAgain = (ns : List ℕ) → ascending (ascending ns) ≡ ascending ns

-- a group without facts isn't desired
abbrev pub AbsentIsUndesired : Type 0
AbsentIsUndesired =
    (g : ℕ) (s : State) → list_any (λ k. is_of_group g k) (fact_keys s) ≡ false → join_desired_star s g ≡ false
