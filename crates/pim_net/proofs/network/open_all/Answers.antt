-- Each node in turn is opened.
use Rattle.std.{proofs.Common.{rules, arith, ◌≡◌, ◌∙◌, ap, sym, subst, List, ◌∷◌, ◌++◌, [], ◌+◌, length, Option, suc}, specs.Vec.Iter.{into_iter_items, into_iter_len}}
use Rattle.pim_model.{specs.Network.Station}
use Rattle.pim_net.{specs.declared.node.Node.Node, proofs.{Nodes.{Opens, opens_all, opens_fails, opens_next}, Stations.{of_err, of_ok}}}
use Rattle.pim_net.proofs.network.open_all.Goals as goal

pub loop-node-preserved : goal.loop-node-preserved
loop-node-preserved c =
    let left : into_iter_items c.loop-node.node-iterator ≡ c.in-Some.node ∷ into_iter_items c.next.new.self = search rules in
    let fewer : into_iter_len c.next.new.self + 1 ≡ into_iter_len c.loop-node.node-iterator = search rules in
    let count : length (into_iter_items c.loop-node.node-iterator) ≡ suc (length (into_iter_items c.next.new.self)) = ap length left in
    let ok = of_ok _ _ c.in-Ok.station c.in-Ok.is c.in_ok-station.ensures.accepted in
    let opens : Opens c.args.nodes.items c.loop-node.stations.items c.loop-node.ports.items (c.in-Some.node ∷ into_iter_items c.next.new.self) c.loop-node.port =
    subst (λ (l : List Node). Opens c.args.nodes.items c.loop-node.stations.items c.loop-node.ports.items l c.loop-node.port) left c.loop-node.invariant.0 in (
      opens_next _ _ _ _ c.in-Some.node c.loop-node.port opens _ _ _ ok.0
          (c.in_ok-push-in-Ok.ensures.items ∙ ap (λ (s : Option Station). c.loop-node.stations.items ++ s ∷ []) ok.1)
          c.in_ok-push-in-Ok-2.ensures.items
          (ap (λ n. c.loop-node.port + (n + 1)) c.len-links.ensures),
      omega (arith, c.loop-node.invariant.1, fewer, count),
      tt,
      tt,
    )

pub returns-in-Err-clause-refused : goal.returns-in-Err-clause-refused
returns-in-Err-clause-refused c =
    let left : into_iter_items c.loop-node.node-iterator ≡ c.in-Some.node ∷ into_iter_items c.next.new.self = search rules in
    let opens : Opens c.args.nodes.items c.loop-node.stations.items c.loop-node.ports.items (c.in-Some.node ∷ into_iter_items c.next.new.self) c.loop-node.port =
    subst (λ (l : List Node). Opens c.args.nodes.items c.loop-node.stations.items c.loop-node.ports.items l c.loop-node.port) left c.loop-node.invariant.0 in
    opens_fails _ _ _ _ c.in-Some.node c.loop-node.port opens c.in-Err.refusal
    (of_err _ _ c.in-Err.refusal c.in-Err.is c.in_ok-station.ensures.refused)

pub returns-clause-accepted : goal.returns-clause-accepted
returns-clause-accepted c =
    let none : into_iter_len c.loop-node.node-iterator ≡ 0 = search rules in
    opens_all _ _ _ _ _ c.loop-node.invariant.0 (sym c.loop-node.invariant.1 ∙ none)
