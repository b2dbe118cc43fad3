-- What the core gives to a data plane (a kernel, or hardware) of a source, and what the plane does by it with a packet
-- that came on an interface: it forwards it, drops it, or hands it to the core as a data event.
use Rattle.std.{specs.Prelude.{Bool, None, Ok, Option, Some, [], false, if◌then◌else◌, not, option_and_then, option_map, true, ℕ, ◌&&◌, ◌||◌}}
use Rattle.pim_ip.{specs.Ipv4.Packet}
use Rattle.pim_types.{specs.declared.{config.IfaceId.IfaceId, outcome.Verdict.Verdict}}
use Rattle.pim_model.{specs.{Cache.{Answers, Plain, answers, away_from, cached, is_on_shared_tree, keeps_alive, opens_tunnel, sets_spt}, declared.accepted.Accepted.Accepted, Forwarding.no_interface, Full.is_full, Plain.fact_key, Sets.Set, State.State, Step.Answered, Tables.{has_row, same_option}}}
use Rattle.law_events.{specs.Decided.plainly_taken}

-- ---- a row

-- The row of a source by which a data plane forwards.
pub record Row : Type 0 where
  -- RPF_interface(S), or without SPTbit(S,G) RPF_interface(RP(G))
  pub incoming : Option ℕ
  -- on which interfaces copies leave of a packet on the incoming interface, without that interface itself
  pub outgoing : Set
  -- on which interfaces a packet sets KAT(S,G), so that the core is to hear of it
  pub alive : Set
  -- from which interfaces packets go to the core: they open the register tunnel or leave by it, set SPTbit, or make the
  -- router the winner of an assert
  pub to_core : Set

-- A row's incoming interface is this one.
abbrev pub is_incoming : Row → ℕ → Bool
is_incoming row i = same_option row.incoming (Some i)

-- The row that a data plane gets of a source, by the source's answers.
unfoldable pub offload : Answers → Row
offload r =
    let incoming : Option ℕ = (if r.spt then r.rpf else r.rp_rpf) in
    record {
      incoming = incoming;
      outgoing = (if r.spt then r.inherited else r.inherited_rpt);
      alive = λ i. keeps_alive r i || (is_on_shared_tree r i && not r.spt && r.watches);
      to_core = λ i. opens_tunnel r i || sets_spt r i
          || (if same_option incoming (Some i) then r.spt && r.has_tunnel else r.contested i);
    }

-- An entry of a multicast forwarding cache: it exists where packets on the incoming interface don't go to the core.
pub record Entry : Type 0 where
  pub incoming : ℕ
  pub outgoing : Set

-- The entry of a kernel's cache for a row; none where packets on the incoming interface are for the core.
unfoldable pub cache_entry : Row → Option Entry
cache_entry row =
    option_and_then (λ i. if row.to_core i then None
    else Some (record { incoming = i; outgoing = away_from i row.outgoing })) row.incoming

-- The row of a source with a fact.
abbrev pub told : State → ℕ → ℕ → Option Row
told s g src = option_map offload (cached s g src)

-- ---- a packet

-- What a row has a data plane do with a packet: forward it, drop it, or bring it to the core, the router.
pub data Handling : Type 0 where
  -- copies leave on these links; and whether the core is to hear that the source is alive
  Forward : Bool → Set → Handling
  Drop : Handling
  ToCore : Handling

-- What a row has a data plane do with a packet that came on an interface.
unfoldable pub handling : Row → ℕ → Handling
handling row i =
    if row.to_core i then ToCore
    else (if is_incoming row i then Forward (row.alive i) (away_from i row.outgoing)
    else (if row.alive i then Forward true no_interface else Drop))

-- How a row handles a packet; without a row it goes to the core.
abbrev pub handled : Option Row → ℕ → Handling
handled None i = ToCore
handled (Some row) i = handling row i

-- What the router's row of its source has a data plane do with a packet.
abbrev pub handling_of : State → IfaceId → Packet → Handling
handling_of s i p = handled (told s p.destination p.source) i.number

-- The core handles the packet.
abbrev pub is_to_core : Handling → Bool
is_to_core ToCore = true
is_to_core Drop = false
is_to_core (Forward alive list) = false

-- A handling as a decision on a plain packet.
abbrev pub decision : Handling → Option Plain
decision (Forward alive list) = Some (record { keeps = alive; list = list })
decision Drop = Some (record { keeps = false; list = no_interface })
decision ToCore = None

-- ---- what a step of a packet is that the plane forwards or drops

-- A packet that is dropped: done, nothing is sent, and nothing changes.
abbrev pub dropped : State → Answered
dropped s = record { answer = Ok Verdict.Done; emissions = []; copies = 0; state = s }

-- What becomes of a packet that a data plane forwards or drops; none where it is for the core.
abbrev pub taken_by_plane : State → Packet → Handling → Option Answered
taken_by_plane s p (Forward alive list) = Some (plainly_taken s p (record { keeps = alive; list = list }))
taken_by_plane s p Drop = Some (dropped s)
taken_by_plane s p ToCore = None

-- ---- a source without a fact

-- How a row handles a packet of a source without a fact, which has no timer to set: a packet that shows the source
-- alive goes to the core.
unfoldable pub handling_unknown : Row → ℕ → Handling
handling_unknown row i = if row.alive i then ToCore else handling row i

-- How a packet of a source without a fact is handled, by the answers of the core's present state, while there is room
-- for a fact.
unfoldable pub unknown_of : State → IfaceId → Packet → Handling
unknown_of s i p =
    if has_row s.sources (fact_key p) || is_full s (Accepted.Data i p) then ToCore
    else handling_unknown (offload (answers s p.destination p.source)) i.number
