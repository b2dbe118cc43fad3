-- What holds of a router behind the front.
use Rattle.std.{specs.Prelude.{IsTrue, List, Ok, Some, [], length, nat_le, true, ℕ, ◌+◌, ◌<◌, ◌^◌, ◌≡◌, ◌≤◌}}
use Rattle.pim_ip.{specs.{Ipv4.{Packet, is_unicast, packet_limit, pim_packet_text, protocol_pim}, View.written_packet}}
use Rattle.pim_types.{specs.declared.{config.RpTable.RpTable, event.Event.Event, outcome.Outcome.Outcome}}
use Rattle.pim_wire.{specs.{Messages.pim_reading, RegisterParts.registered_group, Values.Register, declared.view.PimView.PimView}}
use Rattle.pim_model.{specs.{Judging.{register_judged, unicast_judged}, State.{State, is_own}, Step.{run, state_after}}}
use Rattle.pim_anycast.{specs.{Announced.{is_due, next_announcement}, Joined.{events_given, joined, outcomes_with}, Passed.{bytes_given, copies_of, packet_passed, passed, register_in}, Sets.{is_other, set_for}, declared.set.RpSet.RpSet}}

-- ---- between the routers of a set

-- A message from one of a set to another, as the packet that it leaves in.
abbrev pub sent_text : RpSet → RpSet → ℕ → List ℕ → List ℕ
sent_text from to time_to_live message = pim_packet_text time_to_live from.own.bits to.own.bits message

-- the packet by which it is judged: as one to the shared address, from the own address of the one who sent it
abbrev pub counted_packet : RpSet → RpSet → ℕ → List ℕ → Packet
counted_packet from to time_to_live message =
    written_packet [] time_to_live protocol_pim from.own.bits to.shared.bits message

-- Two routers, each with its set: each address fits its field, the second has the shared address and knows the first as one
-- of its set.
pub record AreTogether (t : State) (from to : RpSet) : Type 0 where
  pub host : IsTrue (is_unicast from.own.bits)
  pub own_fits : to.own.bits < 2 ^ 32
  pub shared_fits : to.shared.bits < 2 ^ 32
  pub shared : is_own t to.shared.bits ≡ true
  pub knows : is_other to from.own.bits ≡ true

-- A Register that one router of a set sends to another is judged there as that Register, to the shared address: whatever
-- Register it is, with data or Null.
abbrev pub CopyIsTaken : Type 0
CopyIsTaken =
    (sets : List RpSet) (t : State) (from to : RpSet) (time_to_live : ℕ) (message : List ℕ) (r : Register)
    → AreTogether t from to → pim_reading message ≡ Ok (PimView.Register r)
    → set_for sets t.ranges (registered_group r) ≡ Some to → 20 + length message ≤ packet_limit
    → (let bytes : List ℕ = sent_text from to time_to_live message in
    unicast_judged t (bytes_given (passed sets t.ranges bytes) bytes)
    ≡ register_judged (counted_packet from to time_to_live message) r)

-- What came from another of the set goes to none of them.
abbrev pub NoneSentBack : Type 0
NoneSentBack =
    (sets : List RpSet) (ranges : RpTable) (p : Packet) (r : Register) (set : RpSet) → register_in p ≡ Some r
    → set_for sets ranges (registered_group r) ≡ Some set → is_other set p.source ≡ true
    → copies_of (packet_passed sets ranges p) ≡ []

-- Announcements are due from the timestamp on that is told as the next one, and not before.
abbrev pub NextIsDue : Type 0
NextIsDue =
    (sets : List RpSet) (present next moment : ℕ) → next_announcement sets present ≡ Some next
    → is_due present moment ≡ nat_le next moment

-- ---- the front and the router

-- The router behind the front is the specification's router, fed what the front gives; what leaves is what the router sends,
-- with the copies before it and the Null-Registers after it.
abbrev pub JoinedIsRun : Type 0
JoinedIsRun =
    (sets : List RpSet) (s : State) (es : List Event)
    → ((joined sets s es).0 ≡ outcomes_with sets s es (run s (events_given sets s es)))
    × ((joined sets s es).1 ≡ state_after s (events_given sets s es))

-- Without a set the front changes nothing, whatever comes.
abbrev pub WithoutSettingNothingChanges : Type 0
WithoutSettingNothingChanges =
    (s : State) (es : List Event) → joined [] s es ≡ (let both : List Outcome × State = (run s es, state_after s es) in both)
