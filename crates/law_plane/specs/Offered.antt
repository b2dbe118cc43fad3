-- What a router offers to a plane of any source: the row of a source with a fact; of another source, what it decides of
-- packets until the router's next event.
use Rattle.std.{specs.Prelude.{Bool, None, Option, Some, false, if◌then◌else◌, option_map, true, ℕ, ◌||◌, ◌≡◌}}
use Rattle.pim_ip.{specs.Ipv4.Packet}
use Rattle.pim_types.{specs.{declared.config.IfaceId.IfaceId, Keys.source_key}}
use Rattle.pim_model.{specs.{Cache.answers, Forwarding.no_interface, Full.source_is_full, State.State, Tables.has_row}}
use Rattle.law_plane.{specs.{Offload.{Row, handled, handling, handling_unknown, offload, told, unknown_of}, Split.handled_at}}

-- The row of a source without a fact: it has no timer to set, so packets that show it alive go to the core.
unfoldable pub unknown_row : Row → Row
unknown_row row = record {
  incoming = row.incoming;
  outgoing = row.outgoing;
  alive = no_interface;
  to_core = λ i. row.to_core i || row.alive i;
}

-- What is offered of a source. With a fact it is valid until an event names the source, without one until the next
-- event.
pub record Offered : Type 0 where
  pub is_known : Bool
  pub row : Row

-- Nothing is offered of a source without a fact for which there is no room.
unfoldable pub offered : State → ℕ → ℕ → Option Offered
offered s g src =
    if has_row s.sources (source_key 0 g src) then Some (record { is_known = true; row = offload (answers s g src) })
    else (if source_is_full s g src then None
    else Some (record { is_known = false; row = unknown_row (offload (answers s g src)) }))

-- The row that is offered of a source, without what else the offer says.
abbrev pub offered_row : State → ℕ → ℕ → Option Row
offered_row s g src = option_map (λ (o : Offered). o.row) (offered s g src)

-- ---- laws

-- The row of a source without a fact gives what is decided of its packets.
abbrev pub UnknownRowDecides : Type 0
UnknownRowDecides = (row : Row) (i : ℕ) → handling (unknown_row row) i ≡ handling_unknown row i

-- By what is offered, each packet is handled as by the router's rows, or, for a source without a fact, as is decided of
-- it.
abbrev pub OfferedIsHandled : Type 0
OfferedIsHandled = (s : State) (i : IfaceId) (p : Packet)
    → handled (offered_row s p.destination p.source) i.number
    ≡ handled_at (told s p.destination p.source) (unknown_of s i p) i.number

-- What is offered of a source with a fact is its row.
abbrev pub KnownIsTold : Type 0
KnownIsTold = (s : State) (g src : ℕ) → has_row s.sources (source_key 0 g src) ≡ true
    → offered_row s g src ≡ told s g src
