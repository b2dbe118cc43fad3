-- Two routers of the chain, of which each takes itself for the querier of their link, and one is so in the end.
use Rattle.std.{specs.Prelude.{List, [], suc, zero, ℕ, ◌∷◌}}
use Rattle.pim_types.{specs.declared.{config.Settings.Settings, event.Event.Event}}
use Rattle.pim_model.{specs.{Network.{At, Deliver, Move, Network}, State.settings_of}}
use Rattle.pim_runs.{specs.{ServedChain.{first, second, station}, Words.{address, advance, up}}}
use Rattle.law_converges.{specs.{LinkDr.Member, LinkQuerier.{AskInTime, OneQuerierAfter}}}

abbrev pub lower : Member
lower = record { router = 0; iface = 1; address = address 10 0 1 1; priority = 1 }

abbrev pub higher : Member
higher = record { router = 1; iface = 0; address = address 10 0 1 2; priority = 1 }

-- the second starts when the next startup query of the first is due, but for a millisecond
abbrev pub lower_events : List Event
lower_events = up 7 1 ∷ advance 31249 ∷ []

abbrev pub higher_events : List Event
higher_events = up 7 0 ∷ []

abbrev pub started_apart : ℕ → ℕ
started_apart zero = 0
started_apart (suc r) = 31250

abbrev pub both_ask : Network
both_ask = record {
  stations = station (3 ∷ 1 ∷ []) first lower_events ∷ station (1 ∷ 2 ∷ []) second higher_events ∷ [];
  frames = [];
}

-- the first one queries, its query is delivered, and the time of both goes past the bound
abbrev pub asking : List Move
asking = At 0 (advance 31250) ∷ Deliver 1 0 1 7 ∷ At 0 (advance 34000) ∷ At 1 (advance 2751) ∷ []

abbrev pub settings : Settings
settings = settings_of first

-- a query comes within a second
abbrev pub late_query : ℕ
late_query = 1000

-- [Other Querier Present Interval]: 2 x 125 s + 10 s / 2
abbrev pub held_back : ℕ
held_back = 255000

-- the next query leaves at 31.25 s, and a second twice later is the bound
abbrev pub query_bound : ℕ
query_bound = 33250

abbrev pub QueriesComeInTime : Type 0
QueriesComeInTime = AskInTime settings held_back late_query query_bound started_apart 1 lower (higher ∷ []) both_ask asking

abbrev pub OneComesToQuery : Type 0
OneComesToQuery = OneQuerierAfter started_apart lower (higher ∷ []) query_bound both_ask asking
