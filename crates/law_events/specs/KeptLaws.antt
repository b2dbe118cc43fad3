-- The kept rows are those of the state after any events.
use Rattle.std.{specs.Prelude.{List, Ok, Some, [], length, nat_lt, true, ℕ, ◌≡◌, ◌≤◌}}
use Rattle.pim_ip.{specs.Ipv4.Packet}
use Rattle.pim_types.{specs.declared.{config.{Config.Config, IfaceId.IfaceId}, event.Event.Event}}
use Rattle.pim_model.{specs.{Cache.{Answers, Plain, plain}, declared.accepted.Accepted.Accepted, Firing.{fire_all, fire_once}, Limits.{config_test, most_ifaces}, Plain.{IsPlainEvent, fact_key}, Reach.own_firing, State.{State, opening}, Step.{change, done, state_after, step, taken}, Tables.has_row, Timers.Ending}}
use Rattle.law_events.{specs.{Rest.IsAtRest, Named.{named_by, named_of}, Decided.{IsDecided, decided_by_answers}, Kept.{Cache, Held, IsCached, SameAnswers, SameDecision, cache_after, cache_at_end, cache_taken, held_all, no_rows, refreshed}}}

-- After an event other than Advance, whose named rows are evaluated again, all rows are those of the state.
abbrev pub EventKeepsCache : Type 0
EventKeepsCache = (s : State) (w : ℕ) (a : Accepted) (c : Cache) → length s.configured.interfaces ≤ most_ifaces → IsCached c s
    → IsCached (refreshed (named_by s (change s w a).state) (done s w (change s w a)).state c)
    (done s w (change s w a)).state

-- After the expiry of a timer, whose named rows are evaluated again, all rows are those of the state.
abbrev pub FiringKeepsCache : Type 0
FiringKeepsCache = (s : State) (w : ℕ) (e : Ending) (c : Cache) → length s.configured.interfaces ≤ most_ifaces → IsCached c s
    → IsCached (refreshed (named_by s (own_firing s e)) (fire_once w s e).0 c) (fire_once w s e).0

-- The states after each timer that expires one by one lead to the state after the Advance.
abbrev pub HeldFires : Type 0
HeldFires = (w moment : ℕ) (h : Held) → ((held_all w moment h).0).state ≡ (fire_all w moment h.state).0

-- The packets of the timers that expire one by one are those of the Advance.
abbrev pub HeldEmits : Type 0
HeldEmits = (w moment : ℕ) (h : Held) → (held_all w moment h).1 ≡ (fire_all w moment h.state).1

-- The cache's rows are those of the state after each timer that expires in an Advance.
abbrev pub HeldIsCached : Type 0
HeldIsCached = (w moment : ℕ) (h : Held) → length (h.state).configured.interfaces ≤ most_ifaces → IsCached h.cache h.state
    → IsCached ((held_all w moment h).0).cache ((held_all w moment h).0).state

-- The cache's rows are those of the state after any accepted event.
abbrev pub TakenKeepsCache : Type 0
TakenKeepsCache = (s : State) (w : ℕ) (a : Accepted) (c : Cache) → length s.configured.interfaces ≤ most_ifaces → IsCached c s
    → IsCached (cache_taken s w a c) (taken s w a).state

-- The cache's rows are those of the state after any event.
abbrev pub StepKeepsCache : Type 0
StepKeepsCache = (s : State) (e : Event) (c : Cache) → length s.configured.interfaces ≤ most_ifaces → IsCached c s
    → IsCached (cache_after s e c) (step s e).state

-- No event changes what is configured.
abbrev pub StepStaysConfigured : Type 0
StepStaysConfigured = (s : State) (e : Event) → s.configured ≡ ((step s e).state).configured

abbrev pub OpeningIsCached : Type 0
OpeningIsCached = (c : Config) → IsCached no_rows (opening c)

-- A plain packet names no source, so all rows are unchanged.
abbrev pub PlainNamesNone : Type 0
PlainNamesNone = (s : State) (w : ℕ) (i : IfaceId) (p : Packet) (how : Plain) → IsAtRest s
    → has_row s.sources (fact_key p) ≡ true → decided_by_answers s i p ≡ Some how → named_of s w (Accepted.Data i p) ≡ []

-- A plain event, by what it does, names no source, so all rows are unchanged.
abbrev pub PlainEventNamesNone : Type 0
PlainEventNamesNone = (s : State) (e : Event) → IsAtRest s → (is : IsPlainEvent s e)
    → named_of s e.draw (Accepted.Data is.iif is.packet) ≡ []

abbrev pub PlainLeavesRows : Type 0
PlainLeavesRows = (s : State) (e : Event) (p : Packet) (how : Plain) → IsAtRest s → IsDecided s e p how → (c : Cache)
    → cache_after s e c ≡ c

-- The cache's rows are those of the state after any list of events.
abbrev pub RunKeepsCache : Type 0
RunKeepsCache = (s : State) (events : List Event) (c : Cache) → length s.configured.interfaces ≤ most_ifaces → IsCached c s
    → IsCached (cache_at_end s events c) (state_after s events)

-- A router's rows, none at the opening, are those of its state after any list of events.
abbrev pub RouterKeepsCache : Type 0
RouterKeepsCache = (c : Config) (events : List Event) → config_test c ≡ Ok tt
    → IsCached (cache_at_end (opening c) events no_rows) (state_after (opening c) events)

-- Equal answers decide a packet alike.
abbrev pub SameAnswersDecide : Type 0
SameAnswersDecide = (a b : Answers) → SameAnswers a b → (i ttl : ℕ) → nat_lt i most_ifaces ≡ true
    → SameDecision (plain a i ttl) (plain b i ttl)
