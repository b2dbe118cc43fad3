-- The limit bounds the facts that count, without the asserts, and each is of a key that an event named.
use Rattle.std.{specs.Prelude.{Err, List, Ok, [], if◌then◌else◌, length, ℕ, ◌*◌, ◌+◌, ◌==◌, ◌||◌, ◌∷◌, ◌≡◌, ◌≤◌}}
use Rattle.pim_types.{specs.{Keys.source_key, declared.{config.Config.Config, event.Event.Event}}}
use Rattle.pim_wire.{specs.RegisterParts.{registered_group, registered_source}}
use Rattle.pim_model.{specs.{declared.accepted.Accepted.Accepted, AssertMacros.is_infinite, Asserts.theirs_of, Downstream.{joined_keys, pruned_keys}, Full.{asserted_keys, counted, makeable_keys, needed, reported_groups, reported_sources}, Hellos.hello_holdtime_of, Judging.{Judged, judged}, Limits.config_test, Neighbours.is_neighbour, State.{State, opening}, Step.{advanced, state_after, step}, Unicast.is_rp}}
use Rattle.law_settled.{specs.Ready.IsSettled}

-- The facts that count, without the asserts: neighbours, group records, source records, downstream rows and sources.
abbrev pub counted_beside_asserts : State → ℕ
counted_beside_asserts s =
    length s.neighbours + length s.group_records + length s.source_records + length s.downstream + length s.sources

-- The counted facts beside the asserts are within the limit.
pub record IsWithinLimit (s : State) : Type 0 where
  pub within : counted_beside_asserts s ≤ s.settings.limit

-- No counted fact beside the asserts is added, and the limit is unchanged.
pub record AddsNone (s t : State) : Type 0 where
  pub settings : t.settings ≡ s.settings
  pub neighbours : length t.neighbours ≤ length s.neighbours
  pub groups : length t.group_records ≤ length s.group_records
  pub members : length t.source_records ≤ length s.source_records
  pub downstream : length t.downstream ≤ length s.downstream
  pub sources : length t.sources ≤ length s.sources

-- Time that passes, whatever expires, adds no fact that counts but asserts.
abbrev pub TimeAddsNone : Type 0
TimeAddsNone = (s : State) (w moment : ℕ) → AddsNone s (advanced s w moment).state

-- Every event keeps the facts that count, without the asserts, within the limit.
abbrev pub StepStaysWithin : Type 0
StepStaysWithin = (s : State) (e : Event) → IsSettled s → IsWithinLimit s → IsWithinLimit (step s e).state

-- After any events from the opening with an accepted configuration, the facts that count, without the asserts, are
-- within the limit.
abbrev pub RunStaysWithin : Type 0
RunStaysWithin = (c : Config) (events : List Event) → config_test c ≡ Ok tt
    → counted_beside_asserts (state_after (opening c) events) ≤ c.limit

-- Asserts are counted facts that may pass the limit: on each interface there are at most as many as the limit.
abbrev pub AssertsStayBounded : Type 0
AssertsStayBounded = (c : Config) (events : List Event) → config_test c ≡ Ok tt
    → length (state_after (opening c) events).asserts ≤ c.limit * length c.interfaces

-- All facts that count are at most the limit, once for each interface and once more.
abbrev pub CountedStayBounded : Type 0
CountedStayBounded = (c : Config) (events : List Event) → config_test c ≡ Ok tt
    → counted (state_after (opening c) events) ≤ c.limit * (length c.interfaces + 1)

-- ---- what an event may add

-- How many of the keys that an event names have no row yet, of those under which it may make one.
unfoldable pub needed_by : State → Accepted → ℕ
needed_by s (Accepted.Hello i from h) =
    if (hello_holdtime_of h == 0) || is_neighbour s i.number from.bits then 0 else 1
needed_by s (Accepted.JoinPruneToMe i m) =
    if m.holdtime == 0 then 0
    else needed s.downstream (makeable_keys (joined_keys s i.number m) (pruned_keys i.number m))
needed_by s (Accepted.Assert i from a) =
    if is_infinite (theirs_of a 0) then 0 else needed s.asserts (asserted_keys i.number a)
needed_by s (Accepted.Report i records) =
    needed s.group_records (reported_groups i.number records)
    + needed s.source_records (reported_sources i.number records)
needed_by s (Accepted.Data i p) = needed s.sources (source_key 0 p.destination p.source ∷ [])
needed_by s (Accepted.Register p r) =
    if is_rp s (registered_group r) p.destination
    then needed s.sources (source_key 0 (registered_group r) (registered_source r) ∷ []) else 0
needed_by s _ = 0

-- How many new facts an event needs; one that is refused or ignored needs none.
abbrev pub needed_of : State → Judged → ℕ
needed_of s (Ok a) = needed_by s a
needed_of s (Err stop) = 0

-- At most `n` counted facts beside the asserts are added, in any table and in all together.
pub record AddsAtMost (n : ℕ) (s t : State) : Type 0 where
  pub settings : t.settings ≡ s.settings
  pub neighbours : length t.neighbours ≤ length s.neighbours + n
  pub groups : length t.group_records ≤ length s.group_records + n
  pub members : length t.source_records ≤ length s.source_records + n
  pub downstream : length t.downstream ≤ length s.downstream + n
  pub sources : length t.sources ≤ length s.sources + n
  pub together : counted_beside_asserts t ≤ counted_beside_asserts s + n

-- An event adds at most as many neighbours, membership records, downstream rows and sources as the keys that it names
-- which have no row and under which it may make one.
abbrev pub AddsWhatIsNeeded : Type 0
AddsWhatIsNeeded =
    (s : State) (e : Event) → IsSettled s → AddsAtMost (needed_of s (judged s e.kind)) s (step s e).state

-- an event that names no new key adds none
abbrev pub NothingNewAddsNone : Type 0
NothingNewAddsNone = (s : State) (e : Event) → IsSettled s → needed_of s (judged s e.kind) ≡ 0
    → AddsNone s (step s e).state
