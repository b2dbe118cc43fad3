-- What holds of plain packets and of the cache's answers, where the router is at rest.
use Rattle.std.{specs.Prelude.{Some, false, is_some, true, ℕ, ◌≡◌}}
use Rattle.pim_ip.{specs.Ipv4.Packet}
use Rattle.pim_types.{specs.{declared.{config.IfaceId.IfaceId, event.Event.Event}, Keys.source_key}}
use Rattle.pim_model.{specs.{Cache.{Plain, answers, cached}, declared.accepted.Accepted.Accepted, Desires.join_desired, Full.is_full, Plain.{IsPlainEvent, fact_key}, Registers.{could_register, with_keepalive}, State.State, Step.{step, taken}, Tables.has_row}}
use Rattle.law_events.{specs.{Rest.IsAtRest, Sees.SeesSource, Decided.{IsDecided, decided_by_answers, plainly_taken}}}

-- ---- a plain packet

-- What the answers decide of a packet is what the specification does with it, and nothing follows.
abbrev pub PlainIsTaken : Type 0
PlainIsTaken = (s : State) (w : ℕ) (i : IfaceId) (p : Packet) (how : Plain) → IsAtRest s
    → has_row s.sources (fact_key p) ≡ true → decided_by_answers s i p ≡ Some how
    → taken s w (Accepted.Data i p) ≡ plainly_taken s p how

-- a source with a fact needs no room
abbrev pub KnownIsNotFull : Type 0
KnownIsNotFull = (s : State) (i : IfaceId) (p : Packet) → has_row s.sources (fact_key p) ≡ true
    → is_full s (Accepted.Data i p) ≡ false

-- The step of a packet that the answers decide is what they say.
abbrev pub PlainIsStepped : Type 0
PlainIsStepped = (s : State) (e : Event) (p : Packet) (how : Plain) → IsAtRest s → IsDecided s e p how
    → step s e ≡ plainly_taken s p how

-- A packet that the answers decide leaves the cache unchanged.
abbrev pub PlainKeepsCache : Type 0
PlainKeepsCache = (s : State) (e : Event) (p : Packet) (how : Plain) → IsAtRest s → IsDecided s e p how
    → (g src : ℕ) → cached (step s e).state g src ≡ cached s g src

-- ---- the plain events, and no others, are decided

abbrev pub DecidedIsPlain : Type 0
DecidedIsPlain = (s : State) (e : Event) (p : Packet) (how : Plain) → IsAtRest s → IsDecided s e p how → IsPlainEvent s e

abbrev pub PlainIsDecided : Type 0
PlainIsDecided = (s : State) (e : Event) → IsAtRest s → (is : IsPlainEvent s e)
    → is_some (decided_by_answers s is.iif is.packet) ≡ true

-- ---- what answers depend on

-- the keepalive timer of a source with a fact changes no answer, its own nor another's
abbrev pub KeepingChangesNoAnswer : Type 0
KeepingChangesNoAnswer = (s : State) (g src : ℕ) → IsAtRest s → has_row s.sources (source_key 0 g src) ≡ true
    → (group source : ℕ) → answers (with_keepalive s g src) group source ≡ answers s group source

-- Where a source's macros read the same, and it is desired and registered alike, its answers are the same.
abbrev pub AnswersOfSame : Type 0
AnswersOfSame = (g src : ℕ) (s t : State) → SeesSource g src s t → join_desired s g src ≡ join_desired t g src
    → has_row s.registers (source_key 0 g src) ≡ has_row t.registers (source_key 0 g src)
    → answers s g src ≡ answers t g src

-- At rest a source with a fact is registered if and only if it could be.
abbrev pub RegisteredWhereItCould : Type 0
RegisteredWhereItCould = (s : State) (g src : ℕ) → IsAtRest s → has_row s.sources (source_key 0 g src) ≡ true
    → has_row s.registers (source_key 0 g src) ≡ could_register s g src

-- At rest a source is desired alike whether its keepalive timer runs or not, so its answers are the same where its
-- macros read the same and CouldRegister(S,G) is the same.
abbrev pub AnswersAtRest : Type 0
AnswersAtRest = (g src : ℕ) (s t : State) → IsAtRest s → IsAtRest t
    → has_row s.sources (source_key 0 g src) ≡ true → has_row t.sources (source_key 0 g src) ≡ true
    → SeesSource g src s t → could_register s g src ≡ could_register t g src → answers s g src ≡ answers t g src

-- At rest the cache has the same row of a source that has a fact in both states, or in neither, where the macros of one
-- with a fact read the same.
abbrev pub CacheOfSame : Type 0
CacheOfSame = (g src : ℕ) (s t : State) → IsAtRest s → IsAtRest t
    → has_row s.sources (source_key 0 g src) ≡ has_row t.sources (source_key 0 g src)
    → (has_row s.sources (source_key 0 g src) ≡ true
    → SeesSource g src s t × (could_register s g src ≡ could_register t g src))
    → cached s g src ≡ cached t g src
