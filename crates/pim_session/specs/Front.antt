-- What stands before a router for hosts and routers of older versions of IGMP (RFC 3376, section 7.3), and what an
-- event is behind it.
use Rattle.std.{specs.{Option.option_map_or, Prelude.{ℕ, Bool, true, false, ◌&&◌, is_none, nat_lt, if◌then◌else◌, List, [], map, replicate, slice_get, slice_set, Option, Some, None, Result, Ok, Err, unwrap_or}}}
use Rattle.pim_ip.{specs.declared.refusal.Refusal.Refusal}
use Rattle.pim_types.{specs.declared.{event.{Event.Event, EventKind.EventKind}, outcome.Emission.Emission}}
use Rattle.pim_model.{specs.{State.{State, iface_count}, Step.step, Sure.needs_no_memory}}
use Rattle.igmp_older.{specs.{Joined.{FrontedRouter, event_given, joined_step, rows_of}, Modes.queries_heard, Presence.{Present, hosts_on, rows_told, with_hosts}, Routers.{cut, queried, query_packet}, Translation.translation, declared.{mode.OlderRow.OlderRow, router.ResponseTimes.ResponseTimes, setting.{OlderHosts.OlderHosts, QueryVersion.QueryVersion}}}}

-- What is known of older hosts, the versions in which the interfaces query, by their numbers, and the times in which
-- hosts answer.
pub record Front : Type 0 where
  pub present : Present
  pub versions : List QueryVersion
  pub times : ResponseTimes

-- a version in which an interface queries, or version 3
abbrev pub version_or_three : Option QueryVersion → QueryVersion
version_or_three None = QueryVersion.Three
version_or_three (Some version) = version

-- the version in which an interface queries; where none is set it is 3
unfoldable pub version_on : Front → ℕ → QueryVersion
version_on f i = version_or_three (slice_get f.versions i)

-- ---- an event as the router is given it

-- queries of version 2 are heard on an interface
abbrev pub hears_queries : Front → ℕ → Bool
hears_queries f i = queries_heard (hosts_on f.present i) (version_on f i)

-- an older query as one of version 3
unfoldable pub bytes_queried : Front → ℕ → List ℕ → List ℕ
bytes_queried f i bytes =
    if hears_queries f i then option_map_or query_packet (queried bytes) bytes else bytes

-- an event's kind with an older query as one of version 3
unfoldable pub kind_queried : Front → EventKind → EventKind
kind_queried f (EventKind.Frame i bytes) = EventKind.Frame i (bytes_queried f i.number bytes)
kind_queried f (EventKind.Advance moment) = EventKind.Advance moment
kind_queried f (EventKind.Unicast bytes) = EventKind.Unicast bytes
kind_queried f (EventKind.Up i) = EventKind.Up i
kind_queried f (EventKind.Down i) = EventKind.Down i
kind_queried f (EventKind.Routes routes) = EventKind.Routes routes
kind_queried f (EventKind.Rps rps) = EventKind.Rps rps
kind_queried f (EventKind.RpCandidates candidates) = EventKind.RpCandidates candidates

-- an event with an older query as one of version 3
abbrev pub event_queried : Front → Event → Event
event_queried f e = record { draw = e.draw; kind = kind_queried f e.kind }

-- what the front knows of older hosts, and the state of the router behind it
abbrev pub both : Front → State → FrontedRouter
both f s = record { present = f.present; state = s }

-- What the router is given: the event itself where nothing stands before the router; else what the joined machine gives
-- it, where an older query is one of version 3 already.
unfoldable pub given : Option Front → State → Event → Event
given None s e = e
given (Some f) s e = event_given (both f s) (event_queried f e)

-- What stands before the router after an event: what the joined machine knows then. The settings stay.
unfoldable pub front_after : Option Front → State → Event → Option Front
front_after None s e = None
front_after (Some f) s e = Some (record f { present = (joined_step (both f s) (event_queried f e)).1.present })

-- ---- emissions as they leave

-- a packet as it leaves on an interface that queries in a version
abbrev pub bytes_leaving : ResponseTimes → QueryVersion → List ℕ → List ℕ
bytes_leaving times QueryVersion.Two bytes = unwrap_or (cut times bytes) bytes
bytes_leaving times QueryVersion.Three bytes = bytes

-- a query on an interface of version 2 is cut
unfoldable pub emission_leaving : Front → Emission → Emission
emission_leaving f (Emission.Link i bytes) = Emission.Link i (bytes_leaving f.times (version_on f i.number) bytes)
emission_leaving f (Emission.Unicast destination bytes) = Emission.Unicast destination bytes

-- packets as they leave behind a front, if there is one
unfoldable pub emissions_leaving : Option Front → List Emission → List Emission
emissions_leaving None sent = sent
emissions_leaving (Some f) sent = map (emission_leaving f) sent

-- ---- what takes no memory

-- the front leaves queries on an interface alone, or the packet is no query of version 2
abbrev pub is_query_passed : Bool → List ℕ → Bool
is_query_passed true bytes = is_none (queried bytes)
is_query_passed false bytes = true

-- a packet is given as it came
abbrev pub is_passed : Front → State → EventKind → Bool
is_passed f s (EventKind.Frame i bytes) =
    is_query_passed (hears_queries f i.number) bytes
    && is_none (translation (rows_of (both f s)) s.present i.number (hosts_on f.present i.number) bytes)
is_passed f s _ = true

-- an event for which no memory is taken
unfoldable pub is_sure : Option Front → State → Event → Bool
is_sure None s e = needs_no_memory (step s e).answer
is_sure (Some f) s e = is_passed f s e.kind && needs_no_memory (step s (given (Some f) s e)).answer

-- ---- settings

-- the times in which hosts answer a router's queries, as they are configured
abbrev pub times_in : State → ResponseTimes
times_in s = record {
  general = s.settings.query_response_interval;
  specific = s.settings.last_member_query_interval;
}

-- what stands before a router of which nothing was set: nobody is heard, and all interfaces query in version 3
abbrev pub unset : State → Front
unset s = record {
  present = record { rows = []; limit = s.settings.limit; hosts = replicate (iface_count s) OlderHosts.Nobody };
  versions = replicate (iface_count s) QueryVersion.Three;
  times = times_in s;
}

-- the front of a session, or one without settings
abbrev pub front_of : State → Option Front → Front
front_of s None = unset s
front_of s (Some f) = f

-- only an interface that is configured has settings
abbrev pub interface_test : State → ℕ → Result (Unit {0}) Refusal
interface_test s i = if nat_lt i (iface_count s) then Ok tt else Err Refusal.NoInterface

-- the hosts that an interface hears are set, and what it heard before is forgotten
unfoldable pub hosts_set : State → Option Front → ℕ → OlderHosts → Option Front
hosts_set s front i hosts =
    let f : Front = front_of s front in
    if nat_lt i (iface_count s) then Some (record f { present = with_hosts i hosts f.present }) else front

-- the version in which an interface queries is set
unfoldable pub version_set : State → Option Front → ℕ → QueryVersion → Option Front
version_set s front i version =
    let f : Front = front_of s front in
    if nat_lt i (iface_count s) then Some (record f { versions = slice_set f.versions i version }) else front

-- ---- rows

-- the groups in an older mode: none where nothing stands before the router
unfoldable pub older_rows : Option Front → State → List OlderRow
older_rows None s = []
older_rows (Some f) s = rows_told s.group_records s.present f.present
