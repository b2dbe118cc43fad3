-- What the router tells of an interface: its DR, its querier, and its neighbours. Sections are those of RFC 7761.
use Rattle.std.{specs.Prelude.{Bool, None, Option, Some, fold, ◌&&◌, if◌then◌else◌, option_map, unwrap_or, ℕ}}
use Rattle.pim_ip.{specs.Addr.addr}
use Rattle.pim_types.{specs.{Keys.{iface_key, neighbour_key, source_in}, declared.{config.InterfaceConfig.InterfaceConfig, fact.{Key.Key, NeighbourRow.NeighbourRow}}}}
use Rattle.pim_model.{specs.{Neighbours.{all_have_priority, is_better_dr, is_dr, neighbours_on}, State.{State, iface_config, is_up, my_address, my_priority}, Tables.{Table, row_at}}}
use Rattle.pim_shown.{specs.declared.link.{Candidate.Candidate, Link.Link, Neighbour.Neighbour}}

-- dr = neighbor where dr_is_better(neighbor, dr, I), else dr (4.3.2)
unfoldable pub better_of : Bool → Candidate → Key × NeighbourRow → Candidate
better_of by_priority dr e =
    if is_better_dr by_priority dr.priority dr.address.bits e
    then record { priority = unwrap_or (e.1).priority 0; address = addr (source_in e.0) } else dr

-- DR(I) (4.3.2): dr = me, and then the better one of it and each neighbour on I
unfoldable pub dr_among : Candidate → Table NeighbourRow → Candidate
dr_among me rows = fold (better_of (all_have_priority rows)) me rows

-- DR(I) (4.3.2) in a state
-- reads: the interface's configuration, the neighbour rows on it
unfoldable pub dr : State → ℕ → ℕ
dr s i =
    (dr_among (record { priority = my_priority s i; address = addr (my_address s i) }) (neighbours_on s i)).address.bits

-- What is told of an interface that is configured. On one that is down nobody is the DR, as nobody queries there.
unfoldable pub link : State → ℕ → Option Link
link s i =
    option_map (λ (c : InterfaceConfig). record {
      is_up = is_up s i;
      dr = if is_up s i then Some (addr (dr s i)) else None;
      is_dr = is_up s i && is_dr s i;
      querier = row_at s.queriers (iface_key i);
    }) (iface_config s i)

-- a neighbour with the options of its last Hello
abbrev pub neighbour : Key × NeighbourRow → Neighbour
neighbour e = record {
  iface = (e.0).iface;
  address = addr (source_in e.0);
  end = (e.1).end;
  priority = (e.1).priority;
  generation = (e.1).generation;
  lan_delay = (e.1).lan_delay;
}

-- the neighbour with the address on an interface
unfoldable pub neighbour_at : State → ℕ → ℕ → Option Neighbour
neighbour_at s i address =
    let k : Key = neighbour_key i address in option_map (λ (r : NeighbourRow). neighbour (k, r)) (row_at s.neighbours k)
