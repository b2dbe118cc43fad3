-- The bytes of a recording: of each call of a router its letter, what it was given, what it answered, a sum of what was
-- sent, and the CRC-32 of all these. Numbers, routes, ranges and counts are written as in a saved state.
use Rattle.std.{specs.{List.flat_map, Prelude.{List, [], length, ℕ, ◌∷◌}}}
use Rattle.pim_ip.{specs.declared.addr.Addr.Addr}
use Rattle.pim_types.{specs.declared.{config.{Config.Config, IfaceId.IfaceId, InterfaceConfig.InterfaceConfig, Route.Route, RpRange.RpRange, Settings.Settings}, event.{Event.Event, EventKind.EventKind}, outcome.Emission.Emission}}
use Rattle.pim_saved.{specs.{Crc.{after_bytes, crc32}, Text.{address_text, candidate_text, interface_text, list_text, moment_text, range_text, route_text, settings_text, word_text, ◌then◌}}}
use Rattle.pim_anycast.{specs.declared.set.RpSet.RpSet}
use Rattle.pim_saver.{specs.declared.answered.Answered.Answered}

-- what a router was given
pub data Call : Type 0 where
  -- an event
  Happened : (event : Event) → Call
  -- a reload with another configuration
  Reloaded : (draw : ℕ) (settings : Settings) (interfaces : List InterfaceConfig) (addresses : List Addr) (routes : List Route) (ranges : List RpRange) → Call
  -- a reload by a map of places, of which each is a number, or the number that stands for none
  Placed : (draw : ℕ) (settings : Settings) (interfaces : List InterfaceConfig) (addresses : List Addr) (routes : List Route) (ranges : List RpRange) (places : List ℕ) → Call
  -- a data plane saw a packet on an interface
  Seen : (draw : ℕ) (iface : IfaceId) (source group : Addr) → Call
  -- a data plane forwarded its last packet of (S,G) at a timestamp
  Kept : (source group : Addr) (moment : ℕ) → Call
  -- the older hosts that an interface hears, by their number
  Hosts : (iface : IfaceId) (hosts : ℕ) → Call
  -- the version of the queries that an interface sends
  Version : (iface : IfaceId) (version : ℕ) → Call
  -- whether the guard is on, by its number
  Guard : (is_on : ℕ) → Call
  -- the sets of RPs that share an address
  Sets : (sets : List RpSet) → Call

-- a record: a call, and what was answered
pub record Record : Type 0 where
  pub call : Call
  pub answered : Answered

-- a configuration without its lists
abbrev pub settings_in : Config → Settings
settings_in c = record {
  limit = c.limit;
  spt = c.spt;
  robustness = c.robustness;
  query_interval = c.query_interval;
  query_response_interval = c.query_response_interval;
  last_member_query_interval = c.last_member_query_interval;
}

-- a reload by a map of places with a configuration
abbrev pub placed_call : ℕ → Config → List ℕ → Call
placed_call draw c places = Placed draw (settings_in c) c.interfaces c.addresses c.routes c.rps places

-- bytes behind their number
abbrev pub bytes_text : List ℕ → List ℕ
bytes_text bytes = moment_text (length bytes) then bytes

-- the bytes of a set of RPs that share an address
unfoldable pub rp_set_text : RpSet → List ℕ
rp_set_text set = address_text set.shared then address_text set.own then list_text address_text set.others

-- the bytes of an event in a record: the letter of its kind, its draw, and what it brings
abbrev pub event_text : ℕ → EventKind → List ℕ
event_text draw (EventKind.Advance moment) = 97 ∷ (word_text draw then moment_text moment)
event_text draw (EventKind.Frame iface bytes) =
    102 ∷ (word_text draw then word_text iface.number then bytes_text bytes)
event_text draw (EventKind.Unicast bytes) = 117 ∷ (word_text draw then bytes_text bytes)
event_text draw (EventKind.Up iface) = 43 ∷ (word_text draw then word_text iface.number)
event_text draw (EventKind.Down iface) = 45 ∷ (word_text draw then word_text iface.number)
event_text draw (EventKind.Routes routes) = 114 ∷ (word_text draw then list_text route_text routes)
event_text draw (EventKind.Rps ranges) = 103 ∷ (word_text draw then list_text range_text ranges)
event_text draw (EventKind.RpCandidates candidates) =
    104 ∷ (word_text draw then list_text candidate_text candidates)

-- the bytes of a call in a record
abbrev pub call_text : Call → List ℕ
call_text (Happened event) = event_text event.draw event.kind
call_text (Reloaded draw settings interfaces addresses routes ranges) =
    99 ∷ (word_text draw then settings_text settings then list_text interface_text interfaces
    then list_text address_text addresses then list_text route_text routes then list_text range_text ranges)
call_text (Placed draw settings interfaces addresses routes ranges places) =
    109 ∷ (word_text draw then settings_text settings then list_text interface_text interfaces
    then list_text address_text addresses then list_text route_text routes then list_text range_text ranges
    then list_text word_text places)
call_text (Seen draw iface source group) =
    115 ∷ (word_text draw then word_text iface.number then address_text source then address_text group)
call_text (Kept source group moment) = 107 ∷ (address_text source then address_text group then moment_text moment)
call_text (Hosts iface hosts) = 111 ∷ (word_text iface.number then word_text hosts)
call_text (Version iface version) = 113 ∷ (word_text iface.number then word_text version)
call_text (Guard is_on) = 100 ∷ word_text is_on
call_text (Sets sets) = 121 ∷ list_text rp_set_text sets

-- the bytes of an answer in a record: its number, and the sum of what was sent
abbrev pub answered_text : Answered → List ℕ
answered_text a = word_text a.answer then word_text a.sum

-- the record of an event
abbrev pub event_record : ℕ → EventKind → Answered → Record
event_record draw kind answered =
    record { call = Happened (record { draw = draw; kind = kind }); answered = answered }

-- the bytes of a record without their sum
abbrev pub front_text : Record → List ℕ
front_text r = call_text r.call then answered_text r.answered

-- bytes with their CRC-32 behind them
abbrev pub summed : List ℕ → List ℕ
summed bytes = bytes then word_text (crc32 bytes)

-- the bytes of a record
abbrev pub record_text : Record → List ℕ
record_text r = summed (front_text r)

-- ---- the sum of what was sent

-- a letter, the interface or the destination, and the packet
abbrev pub packet_text : ℕ → ℕ → List ℕ → List ℕ
packet_text letter place bytes = letter ∷ (word_text place then bytes_text bytes)

-- the bytes of a packet that is sent, for the sum
abbrev pub emission_text : Emission → List ℕ
emission_text (Emission.Link iface bytes) = packet_text 102 iface.number bytes
emission_text (Emission.Unicast destination bytes) = packet_text 117 destination.bits bytes

-- the register after what was sent, packet after packet
abbrev pub after_sent : ℕ → List Emission → ℕ
after_sent c [] = c
after_sent c (emission ∷ sent) = after_sent (after_bytes c (emission_text emission)) sent

-- the sum of packets that are sent
abbrev pub sum_of : List Emission → ℕ
sum_of sent = crc32 (flat_map emission_text sent)
