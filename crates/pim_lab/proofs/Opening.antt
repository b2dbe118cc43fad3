-- A text that is refused, and routers that are.
use Rattle.std.{proofs.Common.{◌≡◌, List, ℕ, Result, Ok, Err, false, map, refl, true}, specs.{List.list_all, Net.Grammar.Parses}}
use Rattle.pim_ip.{specs.declared.refusal.Refusal.Refusal}
use Rattle.pim_types.{specs.declared.config.Config.Config}
use Rattle.pim_model.{specs.Network.nodes_test}
use Rattle.pim_scenario.{specs.{Scenario.IsReadFrom, declared.{complaint.ScenarioRefusal.ScenarioRefusal, scenario.{RouterText.RouterText, Scenario.Scenario}}}}
use Rattle.pim_lab.{specs.Statuses.{has_sets, router_node, routers_test}}

-- nothing is said by a text of which a refusal was read
pub says_none : (r : Result Scenario Refusal) (text : List ℕ) (e : Refusal) → r ≡ Err e → Parses IsReadFrom text r
    → (s : Scenario) → IsReadFrom text s → ⊥
says_none (Ok s) text e is parses = cc
says_none (Err x) text e is parses = parses

-- of a network that is tested, and of the sets
module _ (texts : List RouterText) (nodes : List (Config × List ℕ)) (are : nodes ≡ map router_node texts) where
  pub opened : nodes_test nodes ≡ Ok tt → list_all has_sets texts ≡ true → routers_test texts ≡ Ok tt
  opened passes fit = rw (← are, passes, fit) refl

  pub sets_refused : nodes_test nodes ≡ Ok tt → list_all has_sets texts ≡ false
      → routers_test texts ≡ Err ScenarioRefusal.RpSets
  sets_refused passes fit = rw (← are, passes, fit) refl

  pub network_refused : (r : Refusal) → nodes_test nodes ≡ Err r → routers_test texts ≡ Err (ScenarioRefusal.Tested r)
  network_refused r fails = rw (← are, fails) refl
