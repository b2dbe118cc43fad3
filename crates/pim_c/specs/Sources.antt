-- What MSDP (RFC 3618) beside a router is told.
use Rattle.std.{specs.{Option.option_map_or, Prelude.{Bool, List, None, Option, Some, [], false, option_and_then, unwrap_or, ℕ}}}
use Rattle.pim_ip.{specs.Addr.addr}
use Rattle.pim_types.{specs.declared.name.SourceGroup.SourceGroup}
use Rattle.pim_fanout.{specs.Before.name_key}
use Rattle.pim_model.{specs.State.State}
use Rattle.pim_msdp.{specs.{Actives.given_active, Own.{is_own_source, registered}, declared.active.SourceActive.SourceActive}}
use Rattle.pim_router.{specs.Standing.Standing}
use Rattle.pim_session.{specs.Session.ShownSession}
use Rattle.pim_c.specs.{Recorded.Written, Returned.name_of, Written.NoBytesWritten, declared.{returned.NamedSource.NamedSource, sources.GivenActive.GivenActive}}

-- an SA that a program tells
abbrev pub active_of : GivenActive → SourceActive
active_of g = record {
  peer = addr g.peer;
  rp = addr g.rp;
  name = record { source = addr g.source; group = addr g.group };
  packet = g.packet;
}

-- the packet in which a router is to be given an SA; no bytes where it is to be given nothing
abbrev pub active_text_of : State → GivenActive → List ℕ
active_text_of s g = unwrap_or (given_active s g.peer g.rp g.group g.source g.packet.now) []

abbrev pub ActiveFrom : Option Standing → GivenActive → ℕ → ℕ → ℕ → List ℕ → List ℕ → Type 0
ActiveFrom None g answer size written room filled = NoBytesWritten 41 answer size written room filled
ActiveFrom (Some r) g answer size written room filled = Written (active_text_of r.state g) answer size written room filled

-- The packet was written, as much as fits, with its length, or an allocation failed.
abbrev pub ActiveWritten : Option ShownSession → GivenActive → ℕ → ℕ → ℕ → List ℕ → List ℕ → Type 0
ActiveWritten None g answer size written room filled = NoBytesWritten 50 answer size written room filled
ActiveWritten (Some s) g answer size written room filled = ActiveFrom s.router.standing g answer size written room filled

-- the source that a packet by unicast registers
abbrev pub registered_in : Option ShownSession → List ℕ → Option SourceGroup
registered_in None bytes = None
registered_in (Some s) bytes =
    option_and_then (λ r. registered s.sets r.state.configured r.state.ranges bytes) s.router.standing

abbrev pub registered_name : SourceGroup → NamedSource
registered_name n = name_of (name_key n)

-- the source is one of which the router tells its peers for its own link
abbrev pub is_own_source_in : Option Standing → ℕ → ℕ → Bool
is_own_source_in o source group = option_map_or (λ r. is_own_source r.state group source) o false
