-- What holds of rows: what the plane does by them is what a step does, and what it hands to the core isn't plain.
use Rattle.std.{specs.Prelude.{List, Ok, Some, [], false, length, nat_le, nat_lt, option_map, true, ℕ, ◌&&◌, ◌+◌, ◌==◌, ◌≡◌}}
use Rattle.pim_ip.{specs.{declared.refusal.Refusal.Refusal, Ipv4.{Packet, all_pim_routers, frame_limit, ipv4_reading, is_link_local, is_multicast, protocol_igmp, protocol_pim}}}
use Rattle.pim_types.{specs.declared.{config.IfaceId.IfaceId, event.{Event.Event, EventKind.EventKind}, fact.SourceRow.SourceRow, outcome.Stop.Stop}}
use Rattle.pim_model.{specs.{Cache.{Answers, Plain, answers, plain}, declared.accepted.Accepted.Accepted, Full.{counted, is_full}, Judging.judged, Limits.most_ifaces, Plain.{IsPlainEvent, fact_key}, Registers.keepalive_period, Sets.{Set, members}, State.{State, iface_count, is_own, is_up}, Step.{Answered, step, stopped}, Tables.{has_row, row_at}, Unicast.is_rpf_interface, Writing.copies_of}}
use Rattle.law_events.{specs.{Rest.IsAtRest, Kept.{SameAnswers, SameDecision}}}
use Rattle.law_plane.{specs.Offload.{Entry, Handling, Row, cache_entry, decision, dropped, handling, handling_of, handling_unknown, is_incoming, is_to_core, offload, taken_by_plane}}

-- ---- by the answers

-- A row decides what the answers decide of a packet with a TTL above 1.
abbrev pub RowDecides : Type 0
RowDecides = (r : Answers) (i ttl : ℕ) → nat_lt 1 ttl ≡ true → decision (handling (offload r) i) ≡ plain r i ttl

-- What a row decides, it decides for any TTL.
abbrev pub RowDecidesAnyTtl : Type 0
RowDecidesAnyTtl = (r : Answers) (i ttl : ℕ) (how : Plain) → decision (handling (offload r) i) ≡ Some how
    → plain r i ttl ≡ Some how

-- An entry exists exactly where packets on the incoming interface are decided, and has their list of interfaces.
abbrev pub EntryDecides : Type 0
EntryDecides = (row : Row) (i : ℕ) → row.incoming ≡ Some i
    → decision (handling row i) ≡ option_map (λ (e : Entry). record { keeps = row.alive i; list = e.outgoing }) (cache_entry row)

-- On the incoming interface and on RPF_interface(S) packets may go to the core for several reasons; on others only for
-- an assert, from outgoing interfaces.
abbrev pub StrayIsOutgoing : Type 0
StrayIsOutgoing = (s : State) (g src i : ℕ) → is_to_core (handling (offload (answers s g src)) i) ≡ true
    → is_incoming (offload (answers s g src)) i ≡ false → is_rpf_interface s src i ≡ false
    → (offload (answers s g src)).outgoing i ≡ true

-- ---- by the step

-- an event brings a packet on an interface
abbrev pub BringsData : State → Event → IfaceId → Packet → Type 0
BringsData s e i p = judged s e.kind ≡ Ok (Accepted.Data i p)

-- What a plane has to test of a packet before it uses a row.
pub record IsData (s : State) (i : IfaceId) (bytes : List ℕ) (p : Packet) : Type 0 where
  pub configured : nat_le (iface_count s) i.number ≡ false
  pub up : is_up s i.number ≡ true
  pub short : nat_lt frame_limit (length bytes) ≡ false
  pub read : ipv4_reading bytes ≡ Ok p
  pub not_pim : ((p.protocol == protocol_pim) && (p.destination == all_pim_routers)) ≡ false
  pub not_igmp : (p.protocol == protocol_igmp) ≡ false
  pub not_own : is_own s p.source ≡ false
  pub multicast : is_multicast p.destination ≡ true
  pub not_local : is_link_local p.destination ≡ false

abbrev pub DataIsHeard : Type 0
DataIsHeard = (s : State) (e : Event) (i : IfaceId) (bytes : List ℕ) (p : Packet) → e.kind ≡ EventKind.Frame i bytes
    → IsData s i bytes p → BringsData s e i p

-- A packet that the plane forwards or drops is forwarded or dropped alike by the step.
abbrev pub PlaneIsStepped : Type 0
PlaneIsStepped = (s : State) (e : Event) (i : IfaceId) (p : Packet) (a : Answered) → IsAtRest s → BringsData s e i p
    → taken_by_plane s p (handling_of s i p) ≡ Some a → step s e ≡ a

-- A packet that the plane forwards or drops is plain.
abbrev pub PlaneIsPlain : Type 0
PlaneIsPlain = (s : State) (e : Event) (i : IfaceId) (p : Packet) → IsAtRest s → BringsData s e i p
    → is_to_core (handling_of s i p) ≡ false → IsPlainEvent s e

-- A packet with an expired TTL leaves the same state as one of the same source and group on the same interface, and
-- sends nothing: by it a plane can report others.
abbrev pub SpentPacketTells : Type 0
SpentPacketTells = (s : State) (e f : Event) (i : IfaceId) (p q : Packet) → IsAtRest s → BringsData s e i p → BringsData s f i q
    → q.destination ≡ p.destination → q.source ≡ p.source → nat_lt 1 q.time_to_live ≡ false
    → is_to_core (handling_of s i p) ≡ false → step s f ≡ dropped (step s e).state

-- The plane forwards or drops each packet that is plain and has a TTL above 1.
abbrev pub PlainIsPlane : Type 0
PlainIsPlane = (s : State) (e : Event) → IsAtRest s → (is : IsPlainEvent s e)
    → nat_lt 1 (is.packet).time_to_live ≡ true → is_to_core (handling_of s is.iif is.packet) ≡ false

-- Copies show on which interfaces they leave.
abbrev pub CopiesShowWhere : Type 0
CopiesShowWhere = (s : State) (p : Packet) (a b : Set) → nat_lt 1 p.time_to_live ≡ true
    → copies_of s p a ≡ copies_of s p b → members s a ≡ members s b

-- By the handling nothing leaves, and the core need not hear of the packet.
abbrev pub IsSilent : State → Handling → Type 0
IsSilent s (Handling.Forward alive list) = (alive ≡ false) × (members s list ≡ [])
IsSilent s Handling.Drop = Unit {0}
IsSilent s Handling.ToCore = ⊥

-- The plane drops each packet that changes nothing at all, unless the keepalive timer was set at this very timestamp
-- anyway.
abbrev pub UnchangedIsSilent : Type 0
UnchangedIsSilent = (s : State) (e : Event) (i : IfaceId) (p : Packet) (fact : SourceRow) → IsAtRest s → BringsData s e i p
    → nat_lt 1 p.time_to_live ≡ true → row_at s.sources (fact_key p) ≡ Some fact
    → (fact.keepalive ≡ Some (s.present + keepalive_period) → ⊥) → step s e ≡ dropped s → IsSilent s (handling_of s i p)

-- ---- a source without a fact

-- A packet of a source without a fact needs room, whatever becomes of it.
abbrev pub UnknownNeedsRoom : Type 0
UnknownNeedsRoom = (s : State) (i : IfaceId) (p : Packet) → has_row s.sources (fact_key p) ≡ false
    → is_full s (Accepted.Data i p) ≡ nat_lt s.settings.limit (counted s + 1)

abbrev pub UnknownIsRefused : Type 0
UnknownIsRefused = (s : State) (e : Event) (i : IfaceId) (p : Packet) → BringsData s e i p
    → is_full s (Accepted.Data i p) ≡ true → step s e ≡ stopped s (Stop.Refuse Refusal.Full)

-- Where there is room, what the row decides of a source without a fact is what the step does, and nothing changes.
abbrev pub UnknownIsStepped : Type 0
UnknownIsStepped = (s : State) (e : Event) (i : IfaceId) (p : Packet) (a : Answered) → IsAtRest s → BringsData s e i p
    → has_row s.sources (fact_key p) ≡ false → is_full s (Accepted.Data i p) ≡ false
    → taken_by_plane s p (handling_unknown (offload (answers s p.destination p.source)) i.number) ≡ Some a
    → (step s e ≡ a) × (a.state ≡ s)

-- A packet of a source without a fact that changes nothing at all is for the plane, not for the core.
abbrev pub UnknownWithoutEffectIsForPlane : Type 0
UnknownWithoutEffectIsForPlane = (s : State) (e : Event) (i : IfaceId) (p : Packet) → IsAtRest s → BringsData s e i p
    → has_row s.sources (fact_key p) ≡ false → is_full s (Accepted.Data i p) ≡ false → (step s e).state ≡ s
    → is_to_core (handling_unknown (offload (answers s p.destination p.source)) i.number) ≡ false

-- What the row decides of a source without a fact is unchanged where the answers are, for each interface that can be
-- configured.
abbrev pub UnknownStays : Type 0
UnknownStays = (a b : Answers) (i : ℕ) → SameAnswers a b → nat_lt i most_ifaces ≡ true
    → SameDecision (decision (handling_unknown (offload a) i)) (decision (handling_unknown (offload b) i))
