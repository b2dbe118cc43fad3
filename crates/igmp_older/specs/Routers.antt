-- Routers of IGMP version 2 on a link (RFC 3376, section 7.3.1): what a router of version 3 is to be given in the place of
-- their queries, and what is to leave in the place of its own.
use Rattle.std.{specs.Prelude.{◌≡◌, ℕ, Bool, true, false, ◌&&◌, ◌||◌, ◌==◌, min, nat_le, if◌then◌else◌, List, [], ◌∷◌, ◌++◌, length, slice_index, Option, Some, None, option_map, Result, Ok, Err}}
use Rattle.byteorder.{specs.Endian.{big_bytes, big_from}}
use Rattle.pim_ip.{specs.{Addr.addr, Checksum.{sum16, with_checksum}, Ipv4.{Packet, frame_limit, igmp_packet_text, ipv4_reading, is_multicast, protocol_igmp}, declared.refusal.Refusal.Refusal}}
use Rattle.igmp_wire.{specs.{Messages.igmp_reading, Queries.query_text, Values.Query, declared.view.IgmpView.IgmpView}}
use Rattle.pim_types.{specs.declared.{config.IfaceId.IfaceId, fact.QuerierRow.QuerierRow}}
use Rattle.pim_model.{specs.{Judging.frame_judged, Querier.{is_lower_querier, querier_on, query_seen}, State.{State, iface_count, is_own, is_up}, declared.accepted.Accepted.Accepted}}
use Rattle.igmp_older.{specs.declared.router.{OlderQuery.OlderQuery, ResponseTimes.ResponseTimes}}

-- a packet was written behind what stood there, where one is to be
abbrev pub Wrote : Bool → Option (List ℕ) → List ℕ → List ℕ → Type 0
Wrote false None before after = after ≡ before
Wrote true (Some text) before after = after ≡ before ++ text
Wrote false (Some text) before after = ⊥
Wrote true None before after = ⊥

-- ---- a query that came

-- a query of exactly eight bytes (7.1), for all groups or for one, under a right checksum
unfoldable pub older_query_reading : List ℕ → Option OlderQuery
older_query_reading b =
    if (length b == 8)
    && ((sum16 b == 0) && ((slice_index b 0 == 0x11) && ((big_from 4 4 b == 0) || is_multicast (big_from 4 4 b))))
    then Some (record { max_response = slice_index b 1; group = addr (big_from 4 4 b) })
    else None

-- A query of version 2 as one of version 3: S is clear, and QRV and QQIC are 0, for which the configured values stand.
abbrev pub query_as_three : OlderQuery → Query
query_as_three q = record {
  max_response_code = q.max_response;
  group = q.group.bits;
  suppress = false;
  robustness = 0;
  interval_code = 0;
  sources = [];
}

-- a query of version 2 from a router to a group
pub record OlderQueried : Type 0 where
  pub source : ℕ
  pub destination : ℕ
  pub query : OlderQuery

-- The query of version 3 in its place, as a packet.
unfoldable pub query_packet : OlderQueried → List ℕ
query_packet t = igmp_packet_text t.source t.destination (query_text (query_as_three t.query))

-- the query of version 2 that a packet brings, with its sender
unfoldable pub packet_queried : Packet → Option OlderQueried
packet_queried p =
    if (p.protocol == protocol_igmp) && is_multicast p.destination
    then option_map (λ q. record { source = p.source; destination = p.destination; query = q })
    (older_query_reading p.payload)
    else None

-- the query of version 2 that a read packet brings
abbrev pub reading_queried : Result Packet Refusal → Option OlderQueried
reading_queried (Ok p) = packet_queried p
reading_queried (Err refusal) = None

-- the query of version 2 that a packet is, if it is one; any other packet is given as it came
unfoldable pub queried : List ℕ → Option OlderQueried
queried b = if nat_le (length b) frame_limit then reading_queried (ipv4_reading b) else None

-- ---- a query that leaves

-- a query of version 2 (RFC 2236, section 2), with its Max Response Time in tenths of a second
unfoldable pub older_query_text : ℕ → ℕ → List ℕ
older_query_text max_response group = with_checksum (0x11 ∷ max_response ∷ []) (big_bytes 4 group)

-- the time in which hosts answer a query of a group, or of all groups (RFC 3376, 8.3 and 8.8), in tenths of a second
abbrev pub response_to : ResponseTimes → ℕ → ℕ
response_to times group = if group == 0 then times.general else times.specific

-- A query of version 3 cut behind its group. It says the configured time as a plain number, at most 255: what its code
-- stands for may be less, since a code has steps of 8 and more above 127.
abbrev pub cut_text : ResponseTimes → Query → List ℕ
cut_text times q = older_query_text (min (response_to times q.group) 255) q.group

-- the packet of version 2 that leaves for a query of version 3
abbrev pub message_cut : ResponseTimes → Packet → Result IgmpView Refusal → Option (List ℕ)
message_cut times p (Ok (IgmpView.Query q)) = Some (igmp_packet_text p.source p.destination (cut_text times q))
message_cut times p (Ok (IgmpView.Report records)) = None
message_cut times p (Err refusal) = None

-- the packet of version 2 that leaves for a packet of IGMP; none where it is no query
unfoldable pub packet_cut : ResponseTimes → Packet → Option (List ℕ)
packet_cut times p = if p.protocol == protocol_igmp then message_cut times p (igmp_reading p.payload) else None

-- the packet of version 2 that leaves for a read packet
abbrev pub reading_cut : ResponseTimes → Result Packet Refusal → Option (List ℕ)
reading_cut times (Ok p) = packet_cut times p
reading_cut times (Err refusal) = None

-- What leaves in the place of a packet on an interface that acts in version 2, by the configured times; any other packet
-- leaves as it is.
unfoldable pub cut : ResponseTimes → List ℕ → Option (List ℕ)
cut times b = reading_cut times (ipv4_reading b)

-- ---- queries of older routers as the router takes them

-- the router takes the query that it is given for one of an older router, on an interface that is up, as from that
-- router
abbrev pub QueryIsTaken : Type 0
QueryIsTaken =
    (b : List ℕ) (t : OlderQueried) (s : State) (i : IfaceId) → queried b ≡ Some t
    → nat_le (iface_count s) i.number ≡ false → is_up s i.number ≡ true → is_own s t.source ≡ false
    → frame_judged s i (query_packet t) ≡ Ok (Accepted.Query i (addr t.source) (query_as_three t.query))

-- a querier with a lower address is elected by it, and [Robustness Variable] and [Query Interval] are the configured ones
abbrev pub ConfiguredValuesStay : Type 0
ConfiguredValuesStay =
    (s : State) (i from : ℕ) (q : OlderQuery) → is_lower_querier s i from ≡ true
    → option_map (λ (row : QuerierRow). let v : ℕ × ℕ = (row.robustness, row.query_interval) in v)
    (querier_on (query_seen s i from (query_as_three q)) i)
    ≡ Some (s.settings.robustness, s.settings.query_interval)

-- a cut query is read as a query of version 2 about the same group
abbrev pub CutIsRead : Type 0
CutIsRead =
    (max_response group : ℕ) → ((group == 0) || is_multicast group) ≡ true
    → older_query_reading (older_query_text max_response group)
    ≡ Some (record { max_response = max_response; group = addr group })
