-- What becomes of a scenario's text before its first move, and what is reported of it.
use Rattle.std.{specs.{List.list_all, Prelude.{Bool, Err, List, Ok, Result, [], false, if◌then◌else◌, map, true, ℕ, ⊤, ◌≡◌, ◌⊎◌}}}
use Rattle.pim_ip.{specs.declared.{fault.Fault.Fault, refusal.Refusal.Refusal}}
use Rattle.pim_model.{specs.{Network.nodes_test, State.addressing_of}}
use Rattle.pim_anycast.{specs.{Sets.are_rp_sets, declared.set.RpSet.RpSet}}
use Rattle.pim_scenario.{specs.{Scenario.IsReadFrom, declared.{complaint.ScenarioRefusal.ScenarioRefusal, scenario.{Link.Link, RouterText.RouterText, Scenario.Scenario}}}}
use Rattle.pim_types.{specs.declared.config.Config.Config}
use Rattle.lab_parts.{specs.declared.trouble.Trouble.Trouble}

-- The configuration of a router, with the number of the link of each interface.
abbrev pub router_node : RouterText → Config × List ℕ
router_node r = (r.config, map (λ (l : Link). l.number) r.links)

-- the router can have its sets of RPs that share an address
abbrev pub has_sets : RouterText → Bool
has_sets r = are_rp_sets (addressing_of r.config) r.sets

-- the refusal of a network, and then that of sets which don't fit
abbrev pub sets_after : Result (Unit {0}) Refusal → Bool → Result (Unit {0}) ScenarioRefusal
sets_after (Err refusal) fit = Err (ScenarioRefusal.Tested refusal)
sets_after (Ok done) true = Ok done
sets_after (Ok done) false = Err ScenarioRefusal.RpSets

-- The first refusal of the routers: that of their network, and then that of their sets.
abbrev pub routers_test : List RouterText → Result (Unit {0}) ScenarioRefusal
routers_test routers = sets_after (nodes_test (map router_node routers)) (list_all has_sets routers)

-- The sets, if a router of the configuration can have them.
abbrev pub sets_for : Config → List RpSet → List RpSet
sets_for c sets = if are_rp_sets (addressing_of c) sets then sets else []

-- The text is a scenario, and its routers pass all tests of a network and of their sets.
abbrev pub IsAccepted : List ℕ → Type 0
IsAccepted text = (s : Scenario) × IsReadFrom text s × (routers_test s.routers ≡ Ok tt)

-- The text is no scenario, and the reason is that; or it is one, and its routers are refused for the reason.
abbrev pub IsRefused : List ℕ → ScenarioRefusal → Type 0
IsRefused text refusal =
    ((refusal ≡ ScenarioRefusal.Tested Refusal.BadScenario) × ((s : Scenario) → IsReadFrom text s → ⊥))
    ⊎ ((s : Scenario) × IsReadFrom text s × (routers_test s.routers ≡ Err refusal))

-- The trouble is a test that failed, or want of memory.
abbrev pub IsTroubleOf : Result (Unit {0}) ScenarioRefusal → Trouble → Type 0
IsTroubleOf test (Trouble.Refused refusal) = test ≡ Err refusal
IsTroubleOf test (Trouble.Fault fault) = fault ≡ Fault.Memory

-- Why a text comes to no move: it is refused, or memory is wanting.
abbrev pub Stops : List ℕ → Trouble → Type 0
Stops text (Trouble.Refused refusal) = IsRefused text refusal
Stops text (Trouble.Fault fault) = fault ≡ Fault.Memory

-- The trouble is no refusal.
abbrev pub IsFault : Trouble → Type 0
IsFault (Trouble.Refused refusal) = ⊥
IsFault (Trouble.Fault fault) = ⊤
