-- The rows of the printed tables.
use Rattle.std.{specs.Prelude.{List, [], false, flat_map, if◌then◌else◌, is_some, map, option_map, true, ℕ, ◌++◌, ◌∷◌}}
use Rattle.pim_ip.{specs.Addr.addr}
use Rattle.pim_types.{specs.{Keys.{group_in, source_in}, declared.{config.IfaceId.IfaceId, fact.{AssertRow.AssertRow, DownstreamRow.DownstreamRow, GroupRecordRow.GroupRecordRow, JoinTimerRow.JoinTimerRow, Key.Key, NeighbourRow.NeighbourRow, RegisterState.RegisterState, SourceRecordRow.SourceRecordRow, SourceRow.SourceRow}, upstream.TreeState.TreeState}}}
use Rattle.pim_rows.{specs.declared.table.{DownstreamState.DownstreamState, RegisterName.RegisterName, Row.Row, Table.Table as PrintedTable}}
use Rattle.pim_model.{specs.{Desires.tree_state, Sets.register_state, State.State, Upstream.{fact_keys, groups_of, sources_of}}}

-- an interface by its number
abbrev pub number : ℕ → IfaceId
number i = record { number = i }

-- the downstream state of a row as it is printed
abbrev pub downstream_state : Key → DownstreamRow → DownstreamState
downstream_state k r =
    if is_some r.pending then DownstreamState.PrunePending
    else (if k.rpt then DownstreamState.Prune else DownstreamState.Join)

-- a register state as it is printed
abbrev pub register_name : RegisterState → RegisterName
register_name RegisterState.Join = RegisterName.Join
register_name (RegisterState.JoinPending end) = RegisterName.JoinPending
register_name (RegisterState.Prune end) = RegisterName.Prune

-- the printed row of a neighbour
abbrev pub neighbour_line : Key × NeighbourRow → Row
neighbour_line e = Row.Neighbour (e.0).iface (addr (source_in e.0)) (e.1).end

-- the printed row of a group record
abbrev pub group_line : Key × GroupRecordRow → Row
group_line e = Row.Group (e.0).iface (e.0).group (is_some (e.1).end) (e.1).end

-- the printed row of a source record
abbrev pub source_line : Key × SourceRecordRow → Row
source_line e = Row.Source (e.0).iface (e.0).group (addr (source_in e.0)) (e.1).end

-- the printed row of a downstream state
abbrev pub downstream_line : Key × DownstreamRow → Row
downstream_line e = Row.Downstream e.0 (downstream_state e.0 e.1) (e.1).expiry (e.1).pending

-- the printed row of an assert
abbrev pub assert_line : Key × AssertRow → Row
assert_line e = Row.Assert e.0 (e.1).role (e.1).winner.address (e.1).end

-- the printed row of a joined (*,G) or (S,G), by its Join timer
abbrev pub upstream_line : Key × JoinTimerRow → Row
upstream_line e = Row.Upstream (e.0).group (e.0).source (e.1).end

-- the lines of the (S,G,rpt) states of the sources with a fact, where the group is joined
abbrev pub tree_line : ℕ → ℕ → TreeState → List Row
tree_line g src TreeState.NotJoined = []
tree_line g src TreeState.Pruned = Row.Tree (addr g) (addr src) true ∷ []
tree_line g src TreeState.NotPruned = Row.Tree (addr g) (addr src) false ∷ []

-- the printed rows of the (S,G,rpt) states, by group and source
unfoldable pub tree_lines : State → List Row
tree_lines s =
    let keys : List Key = fact_keys s in
    flat_map (λ g. flat_map (λ src. tree_line g src (tree_state s g src)) (sources_of g keys)) (groups_of keys)

-- the printed row of a source with a fact, with its register
unfoldable pub active_line : State → Key × SourceRow → Row
active_line s e =
    Row.Active (e.0).group (addr (source_in e.0)) (e.1).keepalive (e.1).spt
    (option_map register_name (register_state s (group_in e.0) (source_in e.0)))

-- the rows of a table, ascending by their keys
unfoldable pub rows : State → PrintedTable → List Row
rows s PrintedTable.Neighbours = map neighbour_line s.neighbours
rows s PrintedTable.Groups = map group_line s.group_records
rows s PrintedTable.Sources = map source_line s.source_records
rows s PrintedTable.Downstream = map downstream_line s.downstream
rows s PrintedTable.Asserts = map assert_line s.asserts
rows s PrintedTable.Upstream = map upstream_line s.join_timers
rows s PrintedTable.Trees = tree_lines s
rows s PrintedTable.Active = map (active_line s) s.sources

-- the rows of all printed tables, table by table
unfoldable pub all_rows : State → List Row
all_rows s =
    rows s PrintedTable.Neighbours ++ rows s PrintedTable.Groups ++ rows s PrintedTable.Sources
    ++ rows s PrintedTable.Downstream ++ rows s PrintedTable.Asserts ++ rows s PrintedTable.Upstream
    ++ rows s PrintedTable.Trees ++ rows s PrintedTable.Active
