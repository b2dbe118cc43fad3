-- The packets of a source on the shared tree leave room for its fact.
use Rattle.std.{specs.Prelude.{Some, false, ℕ, ◌≡◌}}
use Rattle.pim_ip.{specs.Ipv4.Packet}
use Rattle.pim_types.{specs.{Keys.source_key, declared.event.Event.Event}}
use Rattle.pim_model.{specs.{declared.accepted.Accepted.Accepted, Cause.done_as, Full.source_is_full, State.State, Step.step, Tables.has_row}}
use Rattle.law_streams.{specs.{Copies.happens, Passing.IsOnShared}}
use Rattle.law_settled.{specs.Ready.IsSettled}

-- a packet of a source that comes in on the shared tree, where the router has no fact of the source and room for one,
-- makes the fact or leaves room for it
abbrev pub OwnPacketKeepsRoom : Type 0
OwnPacketKeepsRoom = (s : State) (e : Event) (p : Packet) (up : ℕ) → IsSettled s
    → IsOnShared s p.destination p.source up → has_row s.sources (source_key 0 p.destination p.source) ≡ false
    → source_is_full s p.destination p.source ≡ false
    → done_as (happens s e) ≡ Some (Accepted.Data (record { number = up }) p)
    → source_is_full (step s e).state p.destination p.source ≡ false
