-- Events at a router in which older queries are heard.
use Rattle.std.{specs.Prelude.{Bool, true, false, List, ℕ, option_map, unwrap_or}}
use Rattle.pim_types.{specs.declared.event.EventKind.EventKind}
use Rattle.igmp_older.{specs.{Modes.queries_heard, Presence.hosts_on, Routers.{queried, query_packet}}}
use Rattle.lab_parts.{specs.declared.station.Station.Station}

-- older queries are heard on an interface of the router
abbrev pub hears_queries : Station → ℕ → Bool
hears_queries st i = queries_heard (hosts_on st.presence i) st.version

-- an older query as one of version 3, where such queries are heard
abbrev pub bytes_heard : Bool → List ℕ → List ℕ
bytes_heard true bytes = unwrap_or (option_map query_packet (queried bytes)) bytes
bytes_heard false bytes = bytes

-- an event's kind with an older query in it as one of version 3
abbrev pub kind_heard : Station → EventKind → EventKind
kind_heard st (EventKind.Frame i bytes) = EventKind.Frame i (bytes_heard (hears_queries st i.number) bytes)
kind_heard st (EventKind.Advance moment) = EventKind.Advance moment
kind_heard st (EventKind.Unicast bytes) = EventKind.Unicast bytes
kind_heard st (EventKind.Up i) = EventKind.Up i
kind_heard st (EventKind.Down i) = EventKind.Down i
kind_heard st (EventKind.Routes routes) = EventKind.Routes routes
kind_heard st (EventKind.Rps rps) = EventKind.Rps rps
kind_heard st (EventKind.RpCandidates candidates) = EventKind.RpCandidates candidates
