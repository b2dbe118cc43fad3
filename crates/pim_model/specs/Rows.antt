-- Which rows differ between two states: a row that is in only one of them, or one of which a value differs, other than
-- whether a Hello is owed and when a timer expires that runs in both.
use Rattle.std.{specs.Prelude.{Bool, None, Option, Some, [], false, is_some, true, ℕ, ◌&&◌, ◌==◌, ◌∷◌}}
use Rattle.pim_ip.{specs.declared.lan.LanDelay.LanDelay}
use Rattle.pim_types.{specs.{Keys.same_key, declared.{fact.{AssertMetric.AssertMetric, AssertRow.AssertRow, DownstreamRow.DownstreamRow, GroupRecordRow.GroupRecordRow, InterfaceRow.InterfaceRow, NeighbourRow.NeighbourRow, RegisterRow.RegisterRow, RegisterState.RegisterState, SourceRecordRow.SourceRecordRow, SourceRow.SourceRow}, path.Path.Path}}}
use Rattle.pim_model.{specs.{Sets.is_winner, Tables.{Table, same_bool, same_option}}}

-- two optional values are alike: both are there and alike, or neither is there
abbrev pub same_both : {X : Type 0} → (X → X → Bool) → Option X → Option X → Bool
same_both same None None = true
same_both same (Some a) (Some b) = same a b
same_both same _ _ = false

-- two tables have the same keys, and their rows are alike
unfoldable pub same_rows : {R : Type 0} → (R → R → Bool) → Table R → Table R → Bool
same_rows same [] [] = true
same_rows same (d ∷ t) (e ∷ u) = same_key d.0 e.0 && same d.1 e.1 && same_rows same t u
same_rows same _ _ = false

-- ---- each kind of row

-- a timer runs in both rows, or in neither
abbrev pub same_end : Option ℕ → Option ℕ → Bool
same_end a b = same_bool (is_some a) (is_some b)

-- two interface rows are alike; their Hello timers always run, and whether a Hello is owed doesn't count
abbrev pub same_interface : InterfaceRow → InterfaceRow → Bool
same_interface a b = a.generation == b.generation

-- two LAN Prune Delay options are alike
abbrev pub same_lan_delay : LanDelay → LanDelay → Bool
same_lan_delay a b =
    same_bool a.can_track b.can_track && (a.propagation_delay == b.propagation_delay)
    && (a.override_interval == b.override_interval)

-- two neighbours are alike
abbrev pub same_neighbour : NeighbourRow → NeighbourRow → Bool
same_neighbour a b =
    same_end a.end b.end && same_both same_lan_delay a.lan_delay b.lan_delay && same_option a.priority b.priority
    && same_option a.generation b.generation

-- two group records are alike: whether their timers run, and so their modes
abbrev pub same_group_record : GroupRecordRow → GroupRecordRow → Bool
same_group_record a b = same_end a.end b.end

-- two source records are alike: whether their timers run
abbrev pub same_source_record : SourceRecordRow → SourceRecordRow → Bool
same_source_record a b = same_end a.end b.end

-- two downstream states are alike: whether their Expiry and Prune-Pending Timers run
abbrev pub same_downstream : DownstreamRow → DownstreamRow → Bool
same_downstream a b = same_end a.expiry b.expiry && same_end a.pending b.pending

-- two assert metrics are alike
abbrev pub same_metric : AssertMetric → AssertMetric → Bool
same_metric m n =
    same_bool m.rpt n.rpt && (m.preference == n.preference) && (m.metric == n.metric)
    && (m.address.bits == n.address.bits)

-- two asserts are alike: their timers always run
abbrev pub same_assert : AssertRow → AssertRow → Bool
same_assert a b = same_bool (is_winner (Some a)) (is_winner (Some b)) && same_metric a.winner b.winner

-- two source facts are alike: whether KAT(S,G) runs, and SPTbit(S,G)
abbrev pub same_source : SourceRow → SourceRow → Bool
same_source a b = same_end a.keepalive b.keepalive && same_bool a.spt b.spt

-- two register states are alike: which state it is says whether the timer runs
abbrev pub same_register_state : RegisterState → RegisterState → Bool
same_register_state RegisterState.Join RegisterState.Join = true
same_register_state (RegisterState.JoinPending end) (RegisterState.JoinPending later) = true
same_register_state (RegisterState.Prune end) (RegisterState.Prune later) = true
same_register_state _ _ = false

-- two registers are alike
abbrev pub same_register : RegisterRow → RegisterRow → Bool
same_register a b = same_register_state a.state b.state

-- ---- routes

-- two paths are alike
abbrev pub same_path : Path → Path → Bool
same_path p q =
    (p.iface.number == q.iface.number) && (p.next_hop.bits == q.next_hop.bits) && (p.preference == q.preference)
    && (p.metric == q.metric) && same_bool p.is_connected q.is_connected
