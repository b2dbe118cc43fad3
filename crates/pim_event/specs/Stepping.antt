-- What holds before an event is taken, and what it leaves.
use Rattle.std.{proofs.Common.Global, specs.{List.Sorted.IsStrictlySortedBy, Prelude.{Box, List, Ok, Option, Result, [], false, ℕ, ◌≡◌, IfOk, IsOkUnless, OnOk}}}
use Rattle.pim_ip.{specs.declared.fault.Fault.Fault}
use Rattle.pim_types.{specs.{Keys.key_cmp, declared.{event.Event.Event, fact.Key.Key, outcome.Outcome.Outcome}}}
use Rattle.pim_mrib.{specs.Routes.RouteTable}
use Rattle.pim_model.{specs.{Cache.cached, declared.accepted.Accepted.Accepted, Judging.judged, Plain.IsPlainEvent, Reach.{told_all, where_accepted}, Step.{Answered, advanced, outcome_of, step, taken, taken_unless_full}}}
use Rattle.law_events.{specs.{Rest.IsAtRest, Named.{named_by, named_of}}}
use Rattle.pim_mfc.{specs.Laws.ShowsRows}
use Rattle.pim_state.{specs.{Turns.Taking, declared.touched.Touched.Touched}}
use Rattle.pim_fanout.{specs.{Disturbed.joined, Refreshing.touches}}
use Rattle.pim_plan.{specs.Naming.{Brings, IsConfigured}}
use Rattle.pim_event.{specs.{Caching.{CacheAfter, CacheFollows}, Costs.IsWithinPath, Disturbing.{disturbed_at, disturbed_of, ended_all, goes_by_answers, joined_all, where_disturbed}, Replacing.{NoneReplaced, event_replaced, replaced_after}, declared.parts.Core.Core}}

-- ---- before it

-- Nothing is left to be done, and the rows of the cache are those of the state.
pub record Rests (core : Core) : Type 0 where
  pub rest : IsAtRest core.world
  pub shown : ShowsRows core.cache.mfc.rows (cached core.world)

-- The counts and lists of the cache are empty besides, and nothing was replaced.
pub record Begins (core : Core) : Type 0 where
  pub rest : IsAtRest core.world
  pub shown : ShowsRows core.cache.mfc.rows (cached core.world)
  pub uncounted : touches core.cache ≡ 0
  pub unlisted : core.cache.changed ≡ []
  pub undisturbed : core.cache.disturbed ≡ Touched.Keys []
  pub unreplaced : core.replaced ≡ NoneReplaced

-- The event is judged to be this one, which brings that table.
pub record Accepts (core : Core) (e : Event) (a : Accepted) (brought : Option (Box RouteTable Global)) : Type 0 where
  pub begun : Begins core
  pub heard : judged core.world e.kind ≡ Ok a
  pub table : Brings a brought

-- An accepted event begins its turn: no message was made yet.
pub record BeginsTurn (core : Core) (turn : Taking) (a : Accepted) : Type 0 where
  pub rest : IsAtRest core.world
  pub shown : ShowsRows core.cache.mfc.rows (cached core.world)
  pub begun : turn.messages ≡ []
  pub unlisted : core.cache.changed ≡ []
  pub configured : IsConfigured core.world a

-- ---- what holds after an event

-- What an event leaves, with what is said of the cache. The fault is want of memory.
pub record StepsWith (Shown : Type 0) (o : Core) (e : Event) (result : Result Outcome Fault) (t : Core) : Type 0 where
  pub outcome : IfOk result (λ outcome. outcome ≡ outcome_of (step o.world e))
  pub state : OnOk result (t.world ≡ (step o.world e).state)
  pub cache : OnOk result Shown
  pub replaced : OnOk result (t.replaced ≡ event_replaced o.world e)
  pub fault : IsOkUnless result Fault.Memory

-- What an event leaves of the core.
abbrev pub Steps : Core → Event → Result Outcome Fault → Core → ℕ → Type 0
Steps o e result t probes = StepsWith (CacheAfter o.world e t.world t.cache probes) o e result t

-- What an event leaves of the core in a turn of its own, where the row of a source doesn't decide it: a plain one costs
-- what was looked up before.
abbrev pub StepsInTurn : Core → Event → Result Outcome Fault → Core → ℕ → Type 0
StepsInTurn o e result t probes =
    StepsWith ((IsPlainEvent o.world e → IsWithinPath probes) → goes_by_answers o.world (judged o.world e.kind) ≡ false
    → CacheAfter o.world e t.world t.cache probes) o e result t

-- What an accepted event leaves that is answered so, names these sources, and disturbs those.
pub record TurnsTo (answered : Answered) (names : List Key) (moved : Touched) (o : Core) (a : Accepted)
    (result : Result Outcome Fault) (t : Core) : Type 0 where
  pub outcome : IfOk result (λ outcome. outcome ≡ outcome_of answered)
  pub state : OnOk result (t.world ≡ answered.state)
  pub cache : OnOk result (CacheFollows o.world t.world names o.cache t.cache)
  pub disturbed : OnOk result (t.cache.disturbed ≡ joined o.cache.disturbed moved)
  pub once : OnOk result (IsStrictlySortedBy key_cmp t.cache.changed)
  pub replaced : OnOk result (t.replaced ≡ replaced_after o.world a o.replaced)
  pub fault : IsOkUnless result Fault.Memory

-- What an accepted event leaves of the core where there is room for its facts.
abbrev pub Turns : Core → ℕ → Accepted → Result Outcome Fault → Core → Type 0
Turns o w a result t = TurnsTo (taken o.world w a) (named_of o.world w a) (disturbed_of o.world w a) o a result t

-- What an accepted event leaves of the core, which is refused where there is no room for its facts.
abbrev pub TurnsUnlessFull : Core → ℕ → Accepted → Result Outcome Fault → Core → Type 0
TurnsUnlessFull o w a result t =
    TurnsTo (taken_unless_full o.world w a) (where_accepted o.world (named_of o.world w) (Ok a))
    (where_disturbed o.world (disturbed_of o.world w) (Ok a)) o a result t

-- What an Advance to a timestamp leaves of the core.
abbrev pub TurnsInTime : Core → ℕ → ℕ → Result Outcome Fault → Core → Type 0
TurnsInTime o w moment result t =
    TurnsTo (advanced o.world w moment) (told_all named_by w moment o.world).1
    (joined_all (ended_all disturbed_at w moment o.world).1) o (Accepted.Advance moment) result t
