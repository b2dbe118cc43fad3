-- What a listener for Bootstraps (RFC 5059) before a router of a scenario knows at the beginning.
use Rattle.std.{specs.Prelude.{None, Option, Some, if◌then◌else◌, option_map, ℕ}}
use Rattle.pim_types.{specs.declared.config.Config.Config}
use Rattle.pim_scenario.{specs.declared.scenario.FrontText.FrontText}
use Rattle.pim_bsr.{specs.Table.{Known, choosing, new_known}}
use Rattle.lab_parts.{specs.declared.learned.Learning.Learning}

-- the settings of a listener, if Bootstraps are heard
abbrev pub learning_of : FrontText → Config → Option Learning
learning_of text c = if text.bsr then Some (record { limit = text.rp_limit; ranges = c.rps; choice = text.choice }) else None

-- until when a neighbour may say at once what it learned before (RFC 5059, 3.5.1), in ms; all routers start at 0
abbrev pub refresh_end : ℕ
refresh_end = 60000

-- a listener that has heard nothing
abbrev pub known_with : Learning → Known
known_with l = choosing l.choice (new_known l.limit l.ranges refresh_end)

abbrev pub new_listener : Option Learning → Option Known
new_listener l = option_map known_with l
