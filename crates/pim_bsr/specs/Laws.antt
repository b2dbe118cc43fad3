-- What a user expects of RPs that are learned, and what holds of a router behind the front.
use Rattle.std.{specs.{List.{AllByRecursion, list_all, list_any}, Prelude.{◌≡◌, ℕ, ◌≤◌, ◌<◌, ◌&&◌, ◌||◌, ◌==◌, Bool, true, false, not, nat_le, nat_lt, if◌then◌else◌, List, [], ◌∷◌, filter, fold, length, map, Some, None, Result, Ok, Err}}}
use Rattle.pim_ip.{specs.{declared.{addr.Prefix.Prefix, refusal.Refusal.Refusal}, Ipv4.{Packet, ipv4_reading}}}
use Rattle.pim_types.{specs.declared.{config.{RpCandidate.RpCandidate, RpRange.RpRange}, event.{Event.Event, EventKind.EventKind}}}
use Rattle.pim_model.{specs.{Limits.{are_candidates, same_prefix}, State.State, Step.{run, state_after}}}
use Rattle.pim_saved.{specs.Laws.AreBytes}
use Rattle.pim_bootstrap.{specs.{Bootstraps.{Bootstrap, BootstrapRange, bootstrap_reading}}}
use Rattle.pim_bsr.{specs.{Hearing.{Around, heard, is_bootstrap, is_from_rpf, is_repeated, sent_on}, Joined.{FrontedRouter, events_given, joined, outcomes_in}, Sound.{HavePriorities, IsSound}, Table.{Known, Table, at_time, candidate_of, candidates, configured, given, given_of, has_prefix, is_preferred, range_prefix, room_beside, with_mask, with_message}, declared.{choice.Choice.Choice, heard.{Heard.Heard}, learned.{Elected.Elected, Learned.Learned, Part.Part}}}}

-- ---- the configured ranges

-- before the first message the router has the configured ranges alone
abbrev pub StaticFirst : Type 0
StaticFirst = (k : Known) → k.table.rps ≡ [] → (given k ≡ k.static) × (candidates k ≡ [])

-- the RP doesn't last beyond a timestamp
abbrev pub ends_by : ℕ → Learned → Bool
ends_by now l = nat_le l.end now

-- when the last holdtime is over the router has the configured ranges alone
abbrev pub StaticAlone : Type 0
StaticAlone =
    (k : Known) (now : ℕ) → list_all (ends_by now) k.table.rps ≡ true
    → (given (at_time now k) ≡ k.static) × (candidates (at_time now k) ≡ [])

-- ---- which messages count

-- the answer of a message that counts
abbrev pub is_taken : Heard → Bool
is_taken (Heard.Taken moved) = true
is_taken Heard.Other = false
is_taken (Heard.Refused refusal) = false
is_taken (Heard.Ignored why) = false

-- a message that counts, and that is no refresh for one that has just started, came from the RPF neighbour of its BSR
abbrev pub CameFromRpf : Type 0
CameFromRpf =
    (s : Around) (k : Known) (i src : ℕ) (b : List ℕ) (m : Bootstrap) → is_taken (heard s k i src b m).answer ≡ true
    → m.no_forward ≡ false → is_from_rpf s i src m ≡ true

-- a message that counts where a BSR is elected is of that BSR, or of one with more weight
abbrev pub WasPreferred : Type 0
WasPreferred =
    (s : Around) (k : Known) (i src : ℕ) (b : List ℕ) (m : Bootstrap) (e : Elected)
    → is_taken (heard s k i src b m).answer ≡ true → k.elected ≡ Some e → is_preferred e m ≡ true

-- the range is of the prefix
abbrev pub is_named : Prefix → BootstrapRange → Bool
is_named p r = same_prefix p (range_prefix r)

-- RPs without the lengths of their hash masks
abbrev pub unmasked : List Learned → List Learned
unmasked ls = map (with_mask 0) ls

-- a fragment leaves the RPs of all ranges that it doesn't name, but for their hash mask
abbrev pub OtherRangesStay : Type 0
OtherRangesStay =
    (s : Around) (k : Known) (i src : ℕ) (b : List ℕ) (m : Bootstrap) (p : Prefix) → list_any (is_named p) m.ranges ≡ false
    → unmasked (filter (has_prefix p) (heard s k i src b m).known.table.rps) ≡ unmasked (filter (has_prefix p) k.table.rps)

-- ---- what is sent on

-- the interface is configured, and has neighbours
abbrev pub has_neighbours : Around → ℕ → Bool
has_neighbours s j = nat_lt j s.count && s.linked j

-- how often a number stands in a list
abbrev pub times_in : ℕ → List ℕ → ℕ
times_in n ns = length (filter (λ m. m == n) ns)

-- A message that may be sent on leaves once on each interface with neighbours; on the one that it came on, no repetition
-- does.
abbrev pub SentOnOnce : Type 0
SentOnOnce =
    (s : Around) (k : Known) (i : ℕ) (b : List ℕ) (m : Bootstrap) (j : ℕ) → m.no_forward ≡ false
    → times_in j (sent_on s k i b m)
    ≡ (if has_neighbours s j && not ((j == i) && is_repeated s k b) then 1 else 0)

-- ---- how long RPs last

-- what happens to what is known: a message with its bytes, time passes, another configuration
pub data Happening : Type 0 where
  Message : Around → ℕ → ℕ → List ℕ → Bootstrap → Happening
  Time : ℕ → Happening
  Ranges : ℕ → List RpRange → Happening

-- what is known after it
abbrev pub after : Known → Happening → Known
after k (Message s i src b m) = (heard s k i src b m).known
after k (Time now) = at_time now k
after k (Ranges limit static) = configured limit static k

unfoldable pub all_after : Known → List Happening → Known
all_after k hs = fold after k hs

-- the range is of a prefix, and the candidate
abbrev pub is_range_at : Prefix → RpRange → Bool
is_range_at p r = same_prefix p r.prefix

abbrev pub is_candidate_at : Prefix → RpCandidate → Bool
is_candidate_at p c = same_prefix p c.prefix

-- the RPs of a prefix have a hash mask of so many bits
abbrev pub have_mask : Prefix → ℕ → List Learned → Bool
have_mask p hash_length ls = list_all (λ (l : Learned). l.hash_length == hash_length) (filter (has_prefix p) ls)

-- No message that counts names the prefix or has another hash mask than its RPs, time doesn't come to the moment, and the
-- configuration neither has the prefix nor so many ranges that RPs in force have no room.
abbrev pub Leaves : Prefix → ℕ → Known → Happening → Type 0
Leaves p moment k (Message s i src b m) =
    (is_taken (heard s k i src b m).answer && (list_any (is_named p) m.ranges || not (have_mask p m.hash_length k.table.rps))) ≡ false
Leaves p moment k (Time now) = now < moment
Leaves p moment k (Ranges limit static) =
    (list_any (is_range_at p) static ≡ false) × (length k.table.rps ≤ room_beside limit static)

unfoldable pub AllLeave : Prefix → ℕ → Known → List Happening → Type 0
AllLeave p moment k [] = Unit {0}
AllLeave p moment k (h ∷ hs) = Leaves p moment k h × AllLeave p moment (after k h) hs

-- A range whose RPs all last to a moment has the same RP, and the same candidates, until then, whatever happens that leaves
-- it.
abbrev pub LastsItsTime : Type 0
LastsItsTime =
    (k : Known) (p : Prefix) (moment : ℕ) (hs : List Happening) → list_any (is_range_at p) k.static ≡ false
    → list_all (λ (l : Learned). nat_le moment l.end) (filter (has_prefix p) k.table.rps) ≡ true
    → AllLeave p moment k hs
    → (filter (is_range_at p) (given (all_after k hs)) ≡ filter (is_range_at p) (given k))
    × (filter (is_candidate_at p) (candidates (all_after k hs)) ≡ filter (is_candidate_at p) (candidates k))

-- however time is cut into pieces, the same is known
abbrev pub TimeInSteps : Type 0
TimeInSteps = (k : Known) (a b : ℕ) → a ≤ b → at_time b (at_time a k) ≡ at_time b k

-- ---- what the router takes

-- a message that happens is what its bytes say
abbrev pub IsRead : Happening → Type 0
IsRead (Message s i src b m) = AreBytes b × (bootstrap_reading b ≡ Ok m)
IsRead (Time now) = Unit {0}
IsRead (Ranges limit static) = Unit {0}

-- Whatever messages come, however time passes and whatever is configured, the router takes the candidates that it is given.
abbrev pub CandidatesAreAccepted : Type 0
CandidatesAreAccepted =
    (k : Known) (hs : List Happening) → IsSound k → HavePriorities k.table → AllByRecursion IsRead hs
    → are_candidates (candidates (all_after k hs)) ≡ true

-- ---- routers that took the same messages

-- a message, and when each of two routers took it
pub record Twice : Type 0 where
  pub message : Bootstrap
  pub first : ℕ
  pub second : ℕ

-- a table after messages, by their times
unfoldable pub table_after : (Twice → ℕ) → Table → List Twice → Table
table_after time t ms =
    fold (λ u x. with_message (time x) u x.message) t ms

-- an RP without its end, and a part without its own
abbrev pub endless : Learned → Learned
endless l = record l { end = 0 }

abbrev pub endless_part : Part → Part
endless_part q = record q { until = 0 }

-- a table without ends
unfoldable pub untimed : Table → Table
untimed t = record { rps = map endless t.rps; parts = map endless_part t.parts }

-- Routers that have the same configured ranges, and took the same messages since they knew the same, are given the same
-- RPs, for ranges or as candidates, whenever the messages came to each, while nothing expires.
abbrev pub SameEverywhere : Type 0
SameEverywhere =
    (static : List RpRange) (t u : Table) (ms : List Twice) → untimed t ≡ untimed u
    → (given_of static (table_after (λ x. x.first) t ms).rps ≡ given_of static (table_after (λ x. x.second) u ms).rps)
    × (map candidate_of (table_after (λ x. x.first) t ms).rps ≡ map candidate_of (table_after (λ x. x.second) u ms).rps)

-- ---- the router behind the front

-- The router behind the front is the specification's router, with the events that the front gives it.
abbrev pub JoinedIsRun : Type 0
JoinedIsRun =
    (b : FrontedRouter) (es : List Event)
    → (outcomes_in (joined b es).0 ≡ run b.state (events_given b es))
    × ((joined b es).1.state ≡ state_after b.state (events_given b es))

-- Without a front the router is the router alone.
abbrev pub WithoutSettingNothingChanges : Type 0
WithoutSettingNothingChanges =
    (s : State) (es : List Event) → outcomes_in (joined (record { known = None; state = s }) es).0 ≡ run s es

-- the packet in an event's bytes is a Bootstrap
abbrev pub is_bootstrap_read : Result Packet Refusal → Bool
is_bootstrap_read (Ok p) = is_bootstrap p
is_bootstrap_read (Err refusal) = false

abbrev pub brings_bootstrap : EventKind → Bool
brings_bootstrap (EventKind.Frame i bytes) = is_bootstrap_read (ipv4_reading bytes)
brings_bootstrap _ = false

-- Where no Bootstrap comes, and none came, the router behind the front is the router alone.
abbrev pub WithoutMessageNothingChanges : Type 0
WithoutMessageNothingChanges =
    (s : State) (k : Known) (es : List Event) → k.table.rps ≡ []
    → AllByRecursion (λ (e : Event). brings_bootstrap e.kind ≡ false) es
    → outcomes_in (joined (record { known = Some k; state = s }) es).0 ≡ run s es

-- an event brings candidates, or RP ranges
abbrev pub brings_candidates : EventKind → Bool
brings_candidates (EventKind.RpCandidates candidates) = true
brings_candidates _ = false

abbrev pub brings_ranges : EventKind → Bool
brings_ranges (EventKind.Rps static) = true
brings_ranges _ = false

-- the events of some kinds
abbrev pub events_of : (EventKind → Bool) → List Event → List Event
events_of test es = filter (λ (e : Event). test e.kind) es

-- Where an RP is chosen for a whole range, the router is given no candidates but those that come.
abbrev pub RangesAlone : Type 0
RangesAlone =
    (s : State) (k : Known) (es : List Event) → k.choice ≡ Choice.Range
    → events_of brings_candidates (events_given (record { known = Some k; state = s }) es) ≡ events_of brings_candidates es

-- Where an RP is chosen for each group, the router is given the configured ranges as they come, and no others.
abbrev pub CandidatesAlone : Type 0
CandidatesAlone =
    (s : State) (k : Known) (es : List Event) → k.choice ≡ Choice.Group
    → events_of brings_ranges (events_given (record { known = Some k; state = s }) es) ≡ events_of brings_ranges es
