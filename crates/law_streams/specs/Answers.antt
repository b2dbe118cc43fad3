-- What one event can send at most: its own messages, what follows of it, and the Hellos that are owed.
use Rattle.std.{specs.{List.All, Prelude.{Bool, List, Some, [], false, filter, if◌then◌else◌, length, min, true, ℕ, ◌&&◌, ◌*◌, ◌++◌, ◌+◌, ◌/◌, ◌==◌, ◌∷◌, ◌≡◌, ◌≤◌, ◌⊎◌}}}
use Rattle.pim_ip.{specs.{Ipv4.Packet, declared.addr.Addr.Addr}}
use Rattle.pim_types.{specs.{declared.{config.IfaceId.IfaceId, event.Event.Event, fact.{AssertRow.AssertRow, InterfaceRow.InterfaceRow, Key.Key, NeighbourRow.NeighbourRow}}, Keys.{neighbour_key, source_key, star_key}}}
use Rattle.pim_wire.{specs.{Values.{JoinPrune, Register}, declared.{assert.Assert.Assert as AssertMessage, hello.Hello.Hello as HelloValue}}}
use Rattle.igmp_wire.{specs.Values.Record}
use Rattle.pim_model.{specs.{declared.accepted.Accepted.Accepted, Cause.done_as, Clearing.clear, Hellos.{hello_holdtime_of, is_generation_changed}, Messages.Message, Querier.{most_sources, record_seen, sources_to_send}, Records.record_of, Sets.is_winner, State.{State, iface_count}, Step.{Change, change, step}, Tables.{Table, row_at}, Upstream.{groups_of, sources_of}}}
use Rattle.law_settled.{specs.Ready.IsSettled}
use Rattle.law_events.{specs.{Events.touched_by_event, Locality.{IsQuiet, own_keys, touching}}}
use Rattle.law_streams.{specs.Copies.happens}

-- ---- what an event sends by its own change

-- How many packets a change sends by itself: messages, copies and Registers.
abbrev pub answer_count : Change → ℕ
answer_count c = length c.messages + length c.copies + length c.registered

-- Data sends a copy on each interface and one Register, or one Assert, at most.
pub record CopiesOrAssert (s : State) (c : Change) : Type 0 where
  pub asserts : length c.messages ≤ 1
  pub copies : length c.copies ≤ iface_count s
  pub registers : length c.registered ≤ 1
  pub either : (c.messages ≡ []) ⊎ ((c.copies ≡ []) × (c.registered ≡ []))

-- Data sends at most a copy on each interface and one Register, or else one Assert.
abbrev pub DataGivesCopiesOrAssert : Type 0
DataGivesCopiesOrAssert = (s : State) (w : ℕ) (i : IfaceId) (p : Packet) → CopiesOrAssert s (change s w (Accepted.Data i p))

-- A Register to the router sends a copy on each interface and one Register-Stop, at most.
pub record CopiesAndStop (s : State) (c : Change) : Type 0 where
  pub stops : length c.messages ≤ 1
  pub copies : length c.copies ≤ iface_count s
  pub registers : c.registered ≡ []

-- A Register to the router sends at most a copy on each interface and one Register-Stop.
abbrev pub RegisterGivesCopiesAndStop : Type 0
RegisterGivesCopiesAndStop =
    (s : State) (w : ℕ) (p : Packet) (r : Register) → CopiesAndStop s (change s w (Accepted.Register p r))

-- An Assert sends at most one Assert.
abbrev pub AssertGivesOne : Type 0
AssertGivesOne =
    (s : State) (w : ℕ) (i : IfaceId) (from : Addr) (a : AssertMessage) → answer_count (change s w (Accepted.Assert i from a)) ≤ 1

-- Events that send nothing themselves: a Hello, a Join/Prune, a query, a Register-Stop, an interface that goes down,
-- new routes, new RP ranges. An Advance is among them, since it makes no change of its own: what it brings comes of the
-- timers that expire, whose changes aren't counted here.
abbrev pub is_unanswered : Accepted → Bool
is_unanswered (Accepted.Up i) = false
is_unanswered (Accepted.Assert i from a) = false
is_unanswered (Accepted.Report i records) = false
is_unanswered (Accepted.Data i p) = false
is_unanswered (Accepted.Register p r) = false
is_unanswered _ = true

-- A Hello, a Join/Prune, a query and a Register-Stop send nothing themselves.
abbrev pub OthersGiveNone : Type 0
OthersGiveNone = (s : State) (w : ℕ) (a : Accepted) → is_unanswered a ≡ true → answer_count (change s w a) ≡ 0

-- The message is a query that names at most 366 sources.
abbrev pub IsShortQuery : Message → Type 0
IsShortQuery (Message.Query i q) = length q.sources ≤ most_sources
IsShortQuery m = ⊥

-- The sources of a group that a record may have the router query: those still to be queried, those with a fact, those
-- named.
unfoldable pub askable : ℕ → State → Record → ℕ
askable i s r =
    length (sources_to_send s i r.group) + length (record_of s i r.group).members + length r.sources

-- The queries of one record of a report: one of the group, and for its sources two and one more for each 366 of them.
pub record AsksFew (i : ℕ) (s : State) (r : Record) (asked : List Message) : Type 0 where
  pub short : All IsShortQuery asked
  pub few : length asked ≤ askable i s r / most_sources + 3

-- A record of a report makes the router send a few queries at most: one of the group, and for its sources two and one
-- more for each 366 of them.
abbrev pub RecordAsksFew : Type 0
RecordAsksFew = (i : ℕ) (s : State) (r : Record) → AsksFew i s r (record_seen i s r).1

-- ---- what follows

-- The number of Hellos that are owed.
unfoldable pub owed_among : Table InterfaceRow → ℕ
owed_among rows = length (filter (λ (e : Key × InterfaceRow). (e.1).is_hello_owed) rows)

-- The number of interfaces of a state that owe a Hello.
abbrev pub owed : State → ℕ
owed s = owed_among s.interfaces

-- The assert is touched, and the router won it: if it goes, it is cancelled.
abbrev pub is_touched_winner : List Key → Key × AssertRow → Bool
is_touched_winner keys e = touching keys e.0 && is_winner (Some e.1)

-- The most asserts that are cancelled where some keys are touched.
unfoldable pub cancels : List Key → State → ℕ
cancels keys s = length (filter (is_touched_winner keys) s.asserts)

-- The most messages upstream of a group: one of (*,G) where it is touched, and for each touched source with any fact at
-- the opening or after the change two, of (S,G) and of (S,G,rpt).
unfoldable pub told_of_group : List Key → State → State → ℕ → ℕ
told_of_group keys o a g =
    (if touching keys (star_key 0 g) then 1 else 0)
    + 2 * length (sources_of g (filter (touching keys) (own_keys g o ++ own_keys g a)))

-- The most messages upstream of several groups.
unfoldable pub told_of_groups : List Key → State → State → List ℕ → ℕ
told_of_groups keys o a [] = 0
told_of_groups keys o a (g ∷ gs) = told_of_group keys o a g + told_of_groups keys o a gs

-- The most messages that follow of a change of these keys, from an opening to a state.
unfoldable pub follows : List Key → State → State → ℕ
follows keys o changed = cancels keys changed + told_of_groups keys o (clear o changed).0 (groups_of keys)

-- The most packets of a change of these keys, with a Hello before each message whose interface owes one.
unfoldable pub most_sent : List Key → State → Change → ℕ
most_sent keys s c =
    answer_count c + follows keys s c.state + min (length c.messages + follows keys s c.state) (owed c.state)

-- From a quiet state, in which nothing is to be cleared or settled, as after every event, a change sends at most
-- `most_sent`.
abbrev pub AnswersAreBounded : Type 0
AnswersAreBounded = (s : State) (e : Event) (a : Accepted) (keys : List Key) → IsQuiet s
    → done_as (happens s e) ≡ Some a → touched_by_event s a ≡ Some keys
    → length (step s e).emissions ≤ most_sent keys s (change s e.draw a)

-- For one source a message of (S,G) and one of (S,G,rpt) upstream follow at most, and what is cancelled.
abbrev pub OneSourceFollows : Type 0
OneSourceFollows = (s t : State) (g src : ℕ) → (src == 0) ≡ false
    → follows (source_key 0 g src ∷ []) s t ≤ cancels (source_key 0 g src ∷ []) t + 2

-- ---- silence

-- a Join/Prune between other routers sends nothing
abbrev pub SeenIsSilent : Type 0
SeenIsSilent = (s : State) (e : Event) (i : IfaceId) (m : JoinPrune) → IsQuiet s
    → done_as (happens s e) ≡ Some (Accepted.JoinPruneSeen i m) → (step s e).emissions ≡ []

-- The Hello repeats the priority and the generation ID of its neighbour.
pub record IsHelloAgain (s : State) (i : IfaceId) (from : Addr) (h : HelloValue) : Type 0 where
  pub row : NeighbourRow
  pub known : row_at s.neighbours (neighbour_key i.number from.bits) ≡ Some row
  pub lasts : (hello_holdtime_of h == 0) ≡ false
  pub priority : h.priority ≡ row.priority
  pub generation : is_generation_changed s i.number from.bits h ≡ false

-- The Hello of a neighbour that repeats its priority and its generation ID sends nothing.
abbrev pub HelloAgainIsSilent : Type 0
HelloAgainIsSilent = (s : State) (e : Event) (i : IfaceId) (from : Addr) (h : HelloValue) → IsQuiet s → IsSettled s
    → done_as (happens s e) ≡ Some (Accepted.Hello i from h) → IsHelloAgain s i from h → (step s e).emissions ≡ []
