-- A plain data event, by what it does: it brings a data packet of a source with a fact, changes nothing but when that
-- fact's keepalive timer expires, and sends copies on links and nothing else. A timer that starts counts as one whose
-- expiry changes.
use Rattle.std.{specs.{List.All, Prelude.{Ok, Option, Some, ℕ, ◌≡◌}}}
use Rattle.pim_ip.{specs.Ipv4.{Packet, copy_text}}
use Rattle.pim_types.{specs.{Keys.source_key, declared.{config.IfaceId.IfaceId, event.Event.Event, fact.{Key.Key, SourceRow.SourceRow}, outcome.{Emission.Emission, Verdict.Verdict}}}}
use Rattle.pim_model.{specs.{Judging.judged, State.State, Step.step, Tables.{put, row_at}, Writing.on_link, declared.accepted.Accepted.Accepted}}

-- the key of the fact of a packet's source
abbrev pub fact_key : Packet → Key
fact_key p = source_key 0 p.destination p.source

-- a packet that leaves is a copy of a data packet on some interface
pub record IsCopy (p : Packet) (e : Emission) : Type 0 where
  pub link : ℕ
  pub copied : e ≡ on_link link (copy_text p)

-- a plain event: a data packet of a source with a fact, which changes at most when KAT(S,G) expires and sends only
-- copies
pub record IsPlainEvent (s : State) (e : Event) : Type 0 where
  -- the interface on which the data packet came
  pub iif : IfaceId
  pub packet : Packet
  pub heard : judged s e.kind ≡ Ok (Accepted.Data iif packet)
  pub done : (step s e).answer ≡ Ok Verdict.Done
  -- the fact of the packet's source, and when its keepalive timer expires after the event
  pub fact : SourceRow
  pub known : row_at s.sources (fact_key packet) ≡ Some fact
  pub end : Option ℕ
  pub rest : (step s e).state ≡ record s { sources = put s.sources (fact_key packet) (record fact { keepalive = end }) }
  pub copies : All (IsCopy packet) (step s e).emissions
