-- A router of a network that gets another configuration, by a map of places or without one.
use Rattle.std.{specs.{Option.option_map_or, Prelude.{Err, List, Ok, Result, [], if◌then◌else◌, length, map, set, ℕ, ◌==◌, ◌++◌, ◌||◌}}}
use Rattle.pim_ip.{specs.{Tests.{expect, ◌>>◌}, declared.refusal.Refusal.Refusal}}
use Rattle.pim_types.{specs.declared.{config.Config.Config, outcome.{Emission.Emission, Outcome.Outcome, Verdict.Verdict}}}
use Rattle.pim_model.{specs.{Limits.config_test, Network.{Network, Station, bad_move, is_node, sent_by, station_at}, State.{State, iface_count}}}
use Rattle.law_states.{specs.{Reloading.reload, Placing.{Places, are_places, reload_by}}}

-- a reload by a map of places, or, where that is empty, without one
unfoldable pub put_by : Places → State → Config → ℕ → State × List Emission
put_by places s c w = if length places == 0 then reload s c w else reload_by s places c w

-- the first refusal of a configuration, and of a map of places where there is one
unfoldable pub put_test : Places → State → Config → Result (Unit {0}) Refusal
put_test places s c =
    config_test c
    >> expect ((length places == 0) || are_places (iface_count s) (length c.interfaces) places) Refusal.PlacesDontFit

-- the first refusal of a configuration with its links
unfoldable pub node_test : Places → State → Config × List ℕ → Result (Unit {0}) Refusal
node_test places s node = expect (is_node node) Refusal.BadScenario >> put_test places s node.0

-- the outcome of a reload that is refused
abbrev pub refused_as : Refusal → Outcome
refused_as refusal = record { answer = Err refusal; emissions = []; copies = 0 }

-- the outcome of a reload that isn't refused
abbrev pub done_with : List Emission → Outcome
done_with sent = record { answer = Ok Verdict.Done; emissions = sent; copies = 0 }

-- A router gets another configuration with other links. What leaves by this leaves on the links that the router had.
unfoldable pub reloaded : Network → ℕ → ℕ → Places → Config × List ℕ → Station → Outcome × Network
reloaded n r draw places node st =
    let a : State × List Emission = put_by places st.state node.0 draw in (
      done_with a.1,
      record {
        stations = set n.stations r (record { links = node.1; state = a.0 });
        frames = n.frames ++ map (sent_by st.links) a.1;
      },
    )

-- a reload of the router of a station, unless the configuration is refused
abbrev pub reloaded_if : Result (Unit {0}) Refusal → Network → ℕ → ℕ → Places → Config × List ℕ → Station → Outcome × Network
reloaded_if (Ok done) n r draw places node st = reloaded n r draw places node st
reloaded_if (Err refusal) n r draw places node st = (refused_as refusal, n)

-- a reload of a router of the network by its number, from 0
unfoldable pub reloaded_at : Network → ℕ → ℕ → Places → Config × List ℕ → Outcome × Network
reloaded_at n r draw places node =
    option_map_or (λ st. reloaded_if (node_test places st.state node) n r draw places node st) (station_at n r) (bad_move, n)
