use Rattle.std.{proofs.Common.{◌≡◌, ◌∙◌}}
use Rattle.pim_trie.{specs.Entries.nodes_along}
use Rattle.pim_mrib.{specs.Index.nodes_visited, proofs.Filled.{found_none, found_some, index_nodes}}
use Rattle.pim_mrib.proofs.prefix_list.PrefixList.longest.Goals as goal

pub returns-in_err-value : goal.returns-in_err-value
returns-in_err-value g c =
    let nodes : nodes_along c.self.inside.index c.args.address.bits 32
    ≡ nodes_visited g.T.Prefixed.prefix_of c.self.inside.values.items c.args.address.bits =
    index_nodes g.T.Prefixed.prefix_of c.self.inside.values.items c.self.inside.index c.args.address.bits
    c.self.invariant.0 in
    rw (← c.self.view_is, ← nodes)
    (record {
      value = c.from_residual.ensures
          ∙ found_none g.T.Prefixed.prefix_of _ _ _ c.self.invariant.0 c.in_err-value.ensures.value;
      visited =
          c.in_err-value.ensures.visited;
      at_most = c.in_err-value.ensures.at_most;
    })

pub returns : goal.returns
returns g c =
    let nodes : nodes_along c.self.inside.index c.args.address.bits 32
    ≡ nodes_visited g.T.Prefixed.prefix_of c.self.inside.values.items c.args.address.bits =
    index_nodes g.T.Prefixed.prefix_of c.self.inside.values.items c.self.inside.index c.args.address.bits
    c.self.invariant.0 in
    rw (← c.self.view_is, ← nodes)
    (record {
      value = found_some g.T.Prefixed.prefix_of _ _ _ _ c.self.invariant.0 c.in_ok-value.ensures.value;
      visited = c.in_ok-value.ensures.visited;
      at_most = c.in_ok-value.ensures.at_most;
    })
