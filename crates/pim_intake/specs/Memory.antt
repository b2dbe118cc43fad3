-- Which events are tested in memory.
use Rattle.std.{specs.Prelude.{Bool, false, true}}
use Rattle.pim_types.{specs.declared.event.EventKind.EventKind}

-- routes, RP ranges and candidates
abbrev pub is_tested_in_memory : EventKind → Bool
is_tested_in_memory (EventKind.Routes routes) = true
is_tested_in_memory (EventKind.Rps rps) = true
is_tested_in_memory (EventKind.RpCandidates candidates) = true
is_tested_in_memory kind = false

-- a packet that came on a link
abbrev pub is_frame : EventKind → Bool
is_frame (EventKind.Frame i bytes) = true
is_frame kind = false
