-- Nothing flows unasked: what is the cause of a copy of a packet on a link. A Join/Prune is one for as long as its
-- holdtime says (RFC 7761, section 4.5), a membership report for the Group Membership Interval (RFC 3376, section 8.4),
-- and neither beyond a Down of the interface.
use Rattle.std.{specs.{List.{All, list_any}, Option.option_map_or, Prelude.{Bool, List, None, Ok, Option, Result, Some, [], drop, false, filter, if◌then◌else◌, length, nat_lt, not, true, ℕ, ◌&&◌, ◌*◌, ◌+◌, ◌-◌, ◌==◌, ◌||◌, ◌≡◌, ◌∷◌}}}
use Rattle.pim_ip.{specs.{Ipv4.{Packet, copy_text}, declared.refusal.Refusal.Refusal}}
use Rattle.pim_types.{specs.{Keys.{source_key, star_key}, declared.{event.Event.Event, outcome.{Emission.Emission, Outcome.Outcome, Verdict.Verdict}}}}
use Rattle.pim_wire.{specs.Values.{Encapsulated, JoinPrune}}
use Rattle.igmp_wire.{specs.{Values.Record, declared.report.RecordType.RecordType}}
use Rattle.pim_model.{specs.{Downstream.{holdtime_forever, is_named, joined_keys}, Judging.{Judged, judged}, Querier.{group_membership_interval, is_excluding, is_skipped}, State.State, Step.step, Tables.is_among, Writing.on_link, declared.accepted.Accepted.Accepted}}

-- an event with the state that it found, whose present is the event's timestamp
pub record Happened : Type 0 where
  pub before : State
  pub event : Event

-- What is in a past: an event, or that the interfaces got other numbers. That is by a map of each old number to the new one
-- of the same interface, or to none where it went.
pub data Passed : Type 0 where
  Happening : Happened → Passed
  Renumbered : List (Option ℕ) → Passed

-- an event that a state found, as part of a past
abbrev pub happened : State → Event → Passed
happened s e = Passed.Happening (record { before = s; event = e })

-- what was so far, the latest first
abbrev pub Past : Type 0
Past = List Passed

-- the past of a router after more events
unfoldable pub past_after : Past → State → List Event → Past
past_after past s [] = past
past_after past s (e ∷ es) = past_after (happened s e ∷ past) (step s e).state es

-- what an event was judged to be, where it was answered Done
abbrev pub if_done : Result Verdict Refusal → Judged → Option Accepted
if_done (Ok Verdict.Done) (Ok a) = Some a
if_done answer _ = None

-- what an event of the past was judged to be, where its answer was Done
unfoldable pub done_as : Happened → Option Accepted
done_as h = if_done (step h.before h.event).answer (judged h.before h.event.kind)

-- ---- what is a cause

-- a Join/Prune to the router with an accepted Join(*,G) or Join(S,G), whose holdtime never expires or hasn't expired
-- yet
unfoldable pub is_join_for : ℕ → ℕ → ℕ → ℕ → State → JoinPrune → Bool
is_join_for now i g src s m =
    (is_named (joined_keys s i m) (star_key i g) || is_named (joined_keys s i m) (source_key i g src))
    && ((m.holdtime == holdtime_forever) || nat_lt now (s.present + 1000 * m.holdtime))

-- a type of record that asks for the sources that it names
abbrev pub is_including : RecordType → Bool
is_including RecordType.IsInclude = true
is_including RecordType.Allow = true
is_including RecordType.ToInclude = true
is_including _ = false

-- a record for G of type IS_EX or TO_EX, or of type IS_IN, ALLOW or TO_IN that names S; a skipped record is none
unfoldable pub is_record_for : ℕ → ℕ → Record → Bool
is_record_for g src r =
    not (is_skipped r) && (r.group == g)
    && (is_excluding r.type || (is_including r.type && is_among src r.sources))

-- a report that has a record for the group and the source (`is_record_for`), where the interface's Group Membership
-- Interval from it hasn't expired yet
unfoldable pub is_report_for : ℕ → ℕ → ℕ → ℕ → State → List Record → Bool
is_report_for now i g src s records =
    list_any (is_record_for g src) records && nat_lt now (s.present + group_membership_interval s i)

-- an event of this kind, in the state that it found, is a cause of copies of (S,G) on the interface at this time
unfoldable pub asks_for : ℕ → ℕ → ℕ → ℕ → State → Option Accepted → Bool
asks_for now i g src s (Some (Accepted.JoinPruneToMe j m)) = (j.number == i) && is_join_for now i g src s m
asks_for now i g src s (Some (Accepted.Report j records)) = (j.number == i) && is_report_for now i g src s records
asks_for now i g src s _ = false

-- what an event was judged to be is that the interface goes down
abbrev pub is_down_of : ℕ → Option Accepted → Bool
is_down_of i (Some (Accepted.Down j)) = j.number == i
is_down_of i _ = false

-- the old number of an interface by such a map, whose first old number is n; none where the interface is a new one
abbrev pub number_before : ℕ → List (Option ℕ) → ℕ → Option ℕ
number_before n [] i = None
number_before n (None ∷ m) i = number_before (n + 1) m i
number_before n (Some j ∷ m) i =
    let later : Option ℕ = number_before (n + 1) m i in
    if j == i then Some n else later

-- (S,G) has a cause on the interface: an event so far is one, and the interface hasn't gone down since. Before the
-- interfaces got other numbers it is the interface's old number that counts.
unfoldable pub has_cause : Past → ℕ → ℕ → ℕ → ℕ → Bool
has_cause [] now i g src = false
has_cause (Passed.Happening h ∷ past) now i g src =
    asks_for now i g src h.before (done_as h) || (not (is_down_of i (done_as h)) && has_cause past now i g src)
has_cause (Passed.Renumbered m ∷ past) now i g src =
    option_map_or (λ old. has_cause past now old g src) (number_before 0 m i) false

-- ---- what flows

-- the packet that an event brings: data that came on a link, or what a Register holds
abbrev pub packet_in : Option Accepted → Option Packet
packet_in (Some (Accepted.Data i p)) = Some p
packet_in (Some (Accepted.Register p (Encapsulated inner))) = Some inner
packet_in _ = None

-- a packet leaves on an interface, and isn't routed to an address
abbrev pub is_on_link : Emission → Bool
is_on_link (Emission.Link i bytes) = true
is_on_link (Emission.Unicast to bytes) = false

-- the copies of an outcome: the last of the packets that it sends on links
unfoldable pub copies_in : Outcome → List Emission
copies_in o =
    let links : List Emission = filter is_on_link o.emissions in
    drop (length links - o.copies) links

-- a copy, on a link, of the packet that the event brings, which has a cause there
pub record IsAskedFor (past : Past) (h : Happened) (copy : Emission) : Type 0 where
  pub link : ℕ
  pub packet : Packet
  pub brought : packet_in (done_as h) ≡ Some packet
  pub copied : copy ≡ on_link link (copy_text packet)
  pub cause : has_cause past h.before.present link packet.destination packet.source ≡ true

-- an outcome has as many copies as it says, and each has a cause
pub record CopiesAreAsked (past : Past) (h : Happened) (o : Outcome) : Type 0 where
  pub count : length (copies_in o) ≡ o.copies
  pub asked : All (IsAskedFor past h) (copies_in o)

-- the outcomes of events from a state on, one after the other, have as many copies as they say, and each has a cause
abbrev pub OutcomesAreAsked : Past → State → List Event → List Outcome → Type 0
OutcomesAreAsked past s [] [] = Unit {0}
OutcomesAreAsked past s (e ∷ es) (o ∷ os) =
    CopiesAreAsked past (record { before = s; event = e }) o
    × OutcomesAreAsked (happened s e ∷ past) (step s e).state es os
OutcomesAreAsked past s es os = ⊥
