-- What holds of a guarded router.
use Rattle.std.{specs.{List.All, Prelude.{◌≡◌, ℕ, true, false, Some}}}
use Rattle.pim_ip.{specs.Ipv4.{Packet, copy_text}}
use Rattle.pim_types.{specs.declared.{event.Event.Event, outcome.Emission.Emission}}
use Rattle.pim_model.{specs.{Cause.{done_as, packet_in}, State.State, Writing.on_link}}
use Rattle.law_streams.{specs.Copies.{copies_at, happens}}
use Rattle.pim_guard.{specs.Guard.{guarded, is_control}}

-- A copy of the packet that an event brings, which is neither IGMP nor PIM, and doesn't go to 224.0.0.0/24.
pub record IsOfData (s : State) (e : Event) (copy : Emission) : Type 0 where
  pub link : ℕ
  pub packet : Packet
  pub brought : packet_in (done_as (happens s e)) ≡ Some packet
  pub is : copy ≡ on_link link (copy_text packet)
  pub plain : is_control packet ≡ false

-- Behind the guard no copy is IGMP or PIM. What an event sends on links beside copies are the router's own messages
-- (`OnlyCopiesAreData`).
abbrev pub GuardedCopiesAreData : Type 0
GuardedCopiesAreData = (s : State) (e : Event) → All (IsOfData s (guarded true e)) (copies_at s (guarded true e))

-- A guard that is off changes nothing.
abbrev pub WithoutGuardNothingChanges : Type 0
WithoutGuardNothingChanges = (e : Event) → guarded false e ≡ e
