-- The nodes of a network, opened one after the other.
use Rattle.std.{proofs.{Common.{◌≡◌, ◌∙◌, ◌≤◌, ◌+◌, ◌*◌, ◌&&◌, ℕ, suc, Bool, true, false, List, [], ◌∷◌, ◌++◌, length, map, Option, Some, Ok, Err, refl, sym, ap, arith, append_assoc, append-nil, length-append, nat_le}, lemmas.Bool.Decides.nat_tests}, specs.List.list_all}
use Rattle.pim_ip.{specs.{Tests.{expect, ◌>>◌}, declared.refusal.Refusal.Refusal}}
use Rattle.pim_types.{specs.declared.config.Config.Config}
use Rattle.pim_model.{specs.{Limits.config_test, Network.{Sent, Station, configs_test, is_node, most_routers, network, nodes_test, station_of}}}
use Rattle.law_settled.{proofs.Accepted.few_interfaces}
use Rattle.pim_net.{specs.{Ports.{first_ports, ports_from}, Showing.{all_of, node_of}, declared.node.Node.Node}, proofs.{Lookups.shown, Stations.all_there}}

abbrev pub configs_of : List Node → List Config
configs_of nodes = map (λ (n : Node). n.config) nodes

abbrev pub opened : Node → Option Station
opened n = Some (station_of (node_of n))

-- all nodes so far were accepted: what is left of the nodes, and the next port
pub record Opens (all : List Node) (made : List (Option Station)) (ports : List ℕ) (rest : List Node) (port : ℕ) : Type 0 where
  pub links : list_all is_node (map node_of rest) ≡ true
  pub few : length made + length rest ≤ most_routers
  pub tests : configs_test (configs_of all) ≡ configs_test (configs_of rest)
  pub made_is : made ++ map opened rest ≡ map opened all
  pub ports_are : ports ++ ports_from port rest ≡ first_ports all
  pub port_is : port ≤ 121 * length made

both_true : (a b : Bool) → (a && b) ≡ true → (a ≡ true) × (b ≡ true)
both_true true b e = (refl, e)
both_true false b e = cc e

module _ (all rest : List Node) (made : List (Option Station)) (ports : List ℕ) (n : Node) (port : ℕ)
    (opens : Opens all made ports (n ∷ rest) port) where
  pub first_linked : length n.links ≡ length n.config.interfaces
  first_linked = grind (arith, nat_tests, (both_true (is_node (node_of n)) _ opens.links).0)

  pub port_stays : config_test n.config ≡ Ok tt → port + (length n.links + 1) ≤ 121 * (length made + 1)
  port_stays ok = omega (arith, few_interfaces n.config ok, first_linked, opens.port_is)

  pub opens_next : (more : List (Option Station)) (with_port : List ℕ) (next : ℕ) → config_test n.config ≡ Ok tt
      → more ≡ made ++ opened n ∷ [] → with_port ≡ ports ++ port ∷ [] → next ≡ port + (length n.links + 1)
      → Opens all more with_port rest next
  unfolding configs_test ports_from
  opens_next more with_port next ok pushed port_pushed port_is =
      let longer : length more ≡ length made + 1 = ap length pushed ∙ length-append made (opened n ∷ []) in
      record {
        links = (both_true (is_node (node_of n)) _ opens.links).1;
        few = omega (arith, longer, opens.few);
        tests = opens.tests ∙ ap (λ x. x >> configs_test (configs_of rest)) ok;
        made_is = ap (λ (m : List (Option Station)). m ++ map opened rest) pushed
            ∙ append_assoc made (opened n ∷ []) (map opened rest) ∙ opens.made_is;
        ports_are = ap (λ (ps : List ℕ). ps ++ ports_from next rest) port_pushed
            ∙ append_assoc ports (port ∷ []) (ports_from next rest)
            ∙ ap (λ (p : ℕ). ports ++ port ∷ ports_from p rest) port_is ∙ opens.ports_are;
        port_is = omega (arith, longer, port_is, port_stays ok);
      }

  pub opens_fails : (refusal : Refusal) → config_test n.config ≡ Err refusal
      → configs_test (configs_of all) ≡ Err refusal
  unfolding configs_test
  opens_fails refusal failed = opens.tests ∙ ap (λ x. x >> configs_test (configs_of rest)) failed

pub opens_all : (all : List Node) (made : List (Option Station)) (ports : List ℕ) (rest : List Node) (port : ℕ)
    → Opens all made ports rest port → length rest ≡ 0
    → (configs_test (configs_of all) ≡ Ok tt) × (made ≡ map opened all) × (ports ≡ first_ports all)
unfolding configs_test ports_from
opens_all all made ports [] port opens none =
    (opens.tests, sym (append-nil made) ∙ opens.made_is, sym (append-nil ports) ∙ opens.ports_are)
opens_all all made ports (n ∷ rest) port opens none = absurd (omega (arith, none))

-- ---- the test of nodes

configs_same : (nodes : List Node) → map (λ (n : Config × List ℕ). n.0) (map node_of nodes) ≡ configs_of nodes
configs_same [] = refl
configs_same (n ∷ nodes) = ap (λ cs. n.config ∷ cs) (configs_same nodes)

stations_same : (nodes : List Node) → map station_of (map node_of nodes) ≡ map (λ n. station_of (node_of n)) nodes
stations_same [] = refl
stations_same (n ∷ nodes) = ap (λ ss. station_of (node_of n) ∷ ss) (stations_same nodes)

node_count : (nodes : List Node) → length (map node_of nodes) ≡ length nodes
node_count [] = refl
node_count (n ∷ nodes) = ap suc (node_count nodes)

abbrev pub lawful : List Node → Bool
lawful nodes = nat_le (length nodes) most_routers && list_all is_node (map node_of nodes)

lawful_is : (nodes : List Node) → nodes_test (map node_of nodes)
    ≡ (expect (lawful nodes) Refusal.BadScenario >> configs_test (configs_of nodes))
unfolding nodes_test
lawful_is nodes = rw (node_count nodes, configs_same nodes) refl

pub unlawful : (nodes : List Node) → lawful nodes ≡ false → nodes_test (map node_of nodes) ≡ Err Refusal.BadScenario
unlawful nodes is = lawful_is nodes ∙ ap (λ b. expect b Refusal.BadScenario >> configs_test (configs_of nodes)) is

pub then_configs : (nodes : List Node) → lawful nodes ≡ true
    → nodes_test (map node_of nodes) ≡ configs_test (configs_of nodes)
then_configs nodes is = lawful_is nodes ∙ ap (λ b. expect b Refusal.BadScenario >> configs_test (configs_of nodes)) is

-- the stations of the nodes, and no frames, show their network
pub network_shown : (nodes : List Node) (stations : List (Option Station)) (frames : List Sent)
    → stations ≡ map opened nodes → frames ≡ [] → shown stations frames ≡ Some (network (map node_of nodes))
unfolding network
network_shown nodes stations frames are none =
    let all : all_of stations ≡ Some (map station_of (map node_of nodes)) =
    ap all_of are ∙ all_there (λ n. station_of (node_of n)) nodes ∙ ap Some (sym (stations_same nodes)) in
    rw (all, none) refl
