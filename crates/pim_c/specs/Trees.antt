-- What C reads of the router's trees and links.
use Rattle.std.{specs.{Option.option_map_or, Prelude.{None, Option, Some, false, option_and_then, option_map, true, unwrap_or, ℕ}}}
use Rattle.pim_ip.{specs.declared.{addr.Addr.Addr, lan.LanDelay.LanDelay}}
use Rattle.pim_ifset.{specs.Members.has}
use Rattle.pim_types.{specs.declared.{fact.{QuerierRole.QuerierRole, QuerierRow.QuerierRow}, path.{Hop.Hop, Path.Path}, upstream.TreeState.TreeState}}
use Rattle.pim_router.{specs.Standing.Standing}
use Rattle.pim_shown.{specs.{Links.{link, neighbour_at}, TreeMacros.{source_tree, tree}, declared.{link.{Link.Link, Neighbour.Neighbour}, shared.Tree.Tree, source.SourceTree.SourceTree, upstream.RpfCause.RpfCause}}}
use Rattle.pim_c.{specs.{Called.interface_bits, Returned.never, declared.trees.{CHop.CHop, CLanDelay.CLanDelay, CLink.CLink, CNeighbour.CNeighbour, CNumber.CNumber, CPath.CPath, CQuerier.CQuerier, CSourceTree.CSourceTree, CTree.CTree}}}

abbrev pub number_of_option : Option ℕ → CNumber
number_of_option None = record { is_there = false; value = 0 }
number_of_option (Some n) = record { is_there = true; value = n }

abbrev pub hop_of : Option Hop → CHop
hop_of None = record { is_there = false; iface = 0; address = 0 }
hop_of (Some h) = record { is_there = true; iface = h.iface.number; address = h.address.bits }

abbrev pub path_of : Option Path → CPath
path_of None =
    record { is_there = false; is_connected = false; iface = 0; next_hop = 0; preference = 0; metric = 0 }
path_of (Some p) = record {
  is_there = true;
  is_connected = p.is_connected;
  iface = p.iface.number;
  next_hop = p.next_hop.bits;
  preference = p.preference;
  metric = p.metric;
}

abbrev pub cause_number : RpfCause → ℕ
cause_number RpfCause.Winner = 1
cause_number RpfCause.NextHop = 2
cause_number RpfCause.Connected = 3
cause_number RpfCause.NoNeighbour = 4
cause_number RpfCause.NoRoute = 5
cause_number RpfCause.Own = 6
cause_number RpfCause.NoRp = 7

abbrev pub state_number : TreeState → ℕ
state_number TreeState.NotJoined = 0
state_number TreeState.Pruned = 1
state_number TreeState.NotPruned = 2

abbrev pub tree_of : Tree → CTree
tree_of t = record {
  rp = number_of_option (option_map (λ (a : Addr). a.bits) t.rp);
  path = path_of t.rp_path;
  rpf_neighbour = hop_of t.rpf_neighbour;
  rpf_cause = cause_number t.rpf_cause;
  join_desired = t.join_desired;
  joins = interface_bits (has t.joins);
  local_receiver_include = interface_bits (has t.local_receiver_include);
  pim_include = interface_bits (has t.pim_include);
  lost_assert = interface_bits (has t.lost_assert);
  won_assert = interface_bits (has t.won_assert);
  immediate_olist = interface_bits (has t.immediate_olist);
}

abbrev pub source_tree_of : SourceTree → CSourceTree
source_tree_of t = record {
  path = path_of t.path;
  rpf_neighbour = hop_of t.rpf_neighbour;
  rpf_cause = cause_number t.rpf_cause;
  rpf_neighbour_rpt = hop_of t.rpf_neighbour_rpt;
  rpt_state = state_number t.tree_state;
  spt_bit = t.spt_bit;
  is_kept_alive = t.is_kept_alive;
  join_desired = t.join_desired;
  prune_desired = t.prune_desired;
  could_register = t.could_register;
  has_tunnel = (t.joins).tunnel;
  joins = interface_bits (has t.joins);
  prunes = interface_bits (has t.prunes);
  local_receiver_include = interface_bits (has t.local_receiver_include);
  local_receiver_exclude = interface_bits (has t.local_receiver_exclude);
  pim_include = interface_bits (has t.pim_include);
  pim_exclude = interface_bits (has t.pim_exclude);
  lost_assert = interface_bits (has t.lost_assert);
  lost_assert_rpt = interface_bits (has t.lost_assert_rpt);
  won_assert = interface_bits (has t.won_assert);
  immediate_olist = interface_bits (has t.immediate_olist);
  inherited_olist = interface_bits (has t.inherited_olist);
  inherited_olist_rpt = interface_bits (has t.inherited_olist_rpt);
}

abbrev pub querier_in : ℕ → ℕ → QuerierRole → CQuerier
querier_in robustness interval (QuerierRole.Querier next_query startup_left) = record {
  role = 1;
  end = next_query;
  startup_left = startup_left;
  robustness = robustness;
  query_interval = interval;
}
querier_in robustness interval (QuerierRole.NonQuerier end) =
    record { role = 2; end = end; startup_left = 0; robustness = robustness; query_interval = interval }

abbrev pub querier_of : Option QuerierRow → CQuerier
querier_of None = record { role = 0; end = never; startup_left = 0; robustness = 0; query_interval = 0 }
querier_of (Some r) = querier_in r.robustness r.query_interval r.role

abbrev pub link_of : Link → CLink
link_of l = record { is_up = l.is_up; is_dr = l.is_dr; dr = option_map_or (λ (a : Addr). a.bits) l.dr 0; querier = querier_of l.querier }

abbrev pub lan_delay_of : Option LanDelay → CLanDelay
lan_delay_of None = record { is_there = false; can_track = false; propagation_delay = 0; override_interval = 0 }
lan_delay_of (Some d) = record {
  is_there = true;
  can_track = d.can_track;
  propagation_delay = d.propagation_delay;
  override_interval = d.override_interval;
}

abbrev pub neighbour_of : Neighbour → CNeighbour
neighbour_of n = record {
  end = unwrap_or n.end never;
  priority = number_of_option n.priority;
  generation = number_of_option n.generation;
  lan_delay = lan_delay_of n.lan_delay;
}

-- what a router that works tells; none without one
abbrev pub tree_in : Option Standing → ℕ → Option Tree
tree_in standing g = option_map (λ (r : Standing). tree r.state g) standing

abbrev pub source_tree_in : Option Standing → ℕ → ℕ → Option SourceTree
source_tree_in standing g src = option_map (λ (r : Standing). source_tree r.state g src) standing

abbrev pub link_in : Option Standing → ℕ → Option Link
link_in standing i = option_and_then (λ (r : Standing). link r.state i) standing

abbrev pub neighbour_in : Option Standing → ℕ → ℕ → Option Neighbour
neighbour_in standing i address = option_and_then (λ (r : Standing). neighbour_at r.state i address) standing
