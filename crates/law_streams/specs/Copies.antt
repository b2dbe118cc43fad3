-- The copies of a packet that an event makes on links.
use Rattle.std.{specs.{List.{All, Contains, Sorted.IsStrictlySortedBy}, Ordering.nat_cmp, Prelude.{List, Ok, Some, map, ℕ, ◌<◌, ◌≡◌}}}
use Rattle.pim_ip.{specs.{Ipv4.{Packet, copy_text, ipv4_reading}, View.{ReadsAs, copied}}}
use Rattle.pim_types.{specs.declared.{config.IfaceId.IfaceId, event.Event.Event, outcome.Emission.Emission}}
use Rattle.pim_wire.{specs.Registers.register_text}
use Rattle.pim_model.{specs.{declared.accepted.Accepted.Accepted, Cause.{Happened, copies_in, done_as, packet_in}, State.{State, iface_count}, Step.{outcome_of, step}, Writing.{on_link, pim_to}}}

-- An event, with the state that it finds.
abbrev pub happens : State → Event → Happened
happens s e = record { before = s; event = e }

-- The copies of data that an event sends in a state.
abbrev pub copies_at : State → Event → List Emission
copies_at s e = copies_in (outcome_of (step s e))

-- The copies are the same bytes on some configured interfaces, in ascending order, each once.
pub record AreOnceEach (s : State) (copies : List Emission) : Type 0 where
  pub links : List ℕ
  pub text : List ℕ
  pub are : copies ≡ map (λ i. on_link i text) links
  pub rise : IsStrictlySortedBy nat_cmp links
  pub configured : All (λ i. i < iface_count s) links

-- The copies of an event are the same bytes on some of the router's interfaces, in ascending order: at most one on each
-- interface. Two routers on a link, or a Register and the tree, can still bring a packet twice.
abbrev pub NeverTwice : Type 0
NeverTwice = (s : State) (e : Event) → AreOnceEach s (copies_at s e)

-- No copy of a data packet is on the interface on which the packet came.
abbrev pub NeverBack : Type 0
NeverBack = (s : State) (e : Event) (i : IfaceId) (p : Packet) (text : List ℕ)
    → done_as (happens s e) ≡ Some (Accepted.Data i p) → Contains (copies_at s e) (on_link i.number text) → ⊥

-- A copy of the packet that the event brings, whose TTL was above 1.
pub record IsLower (s : State) (e : Event) (copy : Emission) : Type 0 where
  pub link : ℕ
  pub packet : Packet
  pub brought : packet_in (done_as (happens s e)) ≡ Some packet
  pub lives : 1 < packet.time_to_live
  pub is : copy ≡ on_link link (copy_text packet)

-- Each copy is the packet with the TTL one lower, and the packet's TTL was above 1.
abbrev pub TtlFalls : Type 0
TtlFalls = (s : State) (e : Event) → All (IsLower s e) (copies_at s e)

-- A Register around the packet that the event brings with its TTL one lower, which was above 1.
pub record IsLowerInside (s : State) (e : Event) (register : Emission) : Type 0 where
  pub from : ℕ
  pub rp : ℕ
  pub packet : Packet
  pub brought : packet_in (done_as (happens s e)) ≡ Some packet
  pub lives : 1 < packet.time_to_live
  pub is : register ≡ pim_to from rp (register_text (copy_text packet))

-- a copy of a packet that was read is read as that packet with a TTL one lower
abbrev pub CopiesReadLower : Type 0
CopiesReadLower = (bytes : List ℕ) (p : Packet) → ipv4_reading bytes ≡ Ok p → ReadsAs (copy_text p) (copied p)
