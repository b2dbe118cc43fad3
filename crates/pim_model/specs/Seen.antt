-- A Join/Prune between other routers, seen by the upstream machines of (*,G) (4.5.4), (S,G) (4.5.5) and (S,G,rpt)
-- (4.5.7). Sections are those of RFC 7761. Here: a message is judged by the desires and upstream neighbours in the
-- state that it finds.
use Rattle.std.{specs.{Option.option_map_or, Prelude.{Bool, List, None, Option, Some, false, filter, fold, if◌then◌else◌, map, max, min, not, ℕ, ◌&&◌, ◌*◌, ◌+◌}}}
use Rattle.pim_types.{specs.{Keys.{is_of_group, is_star, rpt_key, source_in, source_key, star_key}, declared.{fact.{JoinTimerRow.JoinTimerRow, Key.Key, OverrideTimerRow.OverrideTimerRow}, path.Hop.Hop, upstream.TreeState.TreeState}}}
use Rattle.pim_wire.{specs.{Values.JoinPrune, declared.join_prune.EntryKind.EntryKind}}
use Rattle.pim_model.{specs.{Desires.{rpf_rpt, rpf_source, rpf_star, tree_state}, Downstream.{Named, accepted_joins, accepted_prunes, is_kind}, Neighbours.{t_override, t_suppressed}, State.State, Tables.{drop_at, hop_at, keys_in, put, row_at, same_hop, set_row}}}

-- Increase Join Timer to a timestamp: a later one is kept, and without a timer nothing is done
abbrev pub raised_row : ℕ → Option JoinTimerRow → Option JoinTimerRow
raised_row end None = None
raised_row end (Some r) = Some (record { end = max r.end end })

-- Decrease Join Timer to a timestamp: an earlier one is kept, and without a timer nothing is done
abbrev pub lowered_row : ℕ → Option JoinTimerRow → Option JoinTimerRow
lowered_row end None = None
lowered_row end (Some r) = Some (record { end = min r.end end })

-- Increase the Join Timer of a key to a timestamp, in a state
unfoldable pub raise_join_timer : State → Key → ℕ → State
raise_join_timer s k end = record s { join_timers = set_row s.join_timers k (raised_row end (row_at s.join_timers k)) }

-- Decrease the Join Timer of a key to a timestamp, in a state
unfoldable pub lower_join_timer : State → Key → ℕ → State
lower_join_timer s k end = record s { join_timers = set_row s.join_timers k (lowered_row end (row_at s.join_timers k)) }

-- OT = min(OT, timestamp), where a timer that doesn't run is infinite (4.5.7)
unfoldable pub lower_override_timer : State → Key → ℕ → State
lower_override_timer s k end =
    let row : OverrideTimerRow =
    record { end = option_map_or (λ (r : OverrideTimerRow). min r.end end) (row_at s.override_timers k) end } in
    record s { override_timers = put s.override_timers k row }

-- Cancel OT (4.5.7)
unfoldable pub cancel_override_timer : State → Key → State
cancel_override_timer s k = record s { override_timers = drop_at s.override_timers k }

-- t_joinsuppress from the present time: the minimum of t_suppressed and the holdtime (4.5.4, 4.5.5); here: at least 1
-- ms
unfoldable pub suppressed_end : State → ℕ → ℕ → ℕ → ℕ
suppressed_end s i w holdtime = s.present + max 1 (min (t_suppressed s i w) (1000 * holdtime))

-- t_override from the present time (4.11), in ms
abbrev pub override_end : State → ℕ → ℕ → ℕ
override_end s i w = s.present + t_override s i w

-- (S,G,rpt) is in NotPruned, and RPF'(S,G,rpt) is the neighbour
unfoldable pub is_unpruned_towards : State → Hop → ℕ → ℕ → Bool
is_unpruned_towards o hop g src =
    elim (tree_state o g src) [
      | TreeState.NotPruned ↦ same_hop (rpf_rpt o g src) (Some hop)
      | TreeState.Pruned ↦ false
      | TreeState.NotJoined ↦ false
    ]

-- See Join(*,G) to RPF'(*,G), Join(S,G) to RPF'(S,G): Increase Join Timer to t_joinsuppress (4.5.4, 4.5.5); see
-- Join(S,G,rpt) to RPF'(S,G,rpt): Cancel OT (4.5.7). o is the state that the message finds
unfoldable pub join_seen : State → ℕ → ℕ → Hop → State → Named → State
join_seen o holdtime w hop s n =
    let g : ℕ = n.0 in
    let address : ℕ = (n.1).address.bits in
    let end : ℕ = suppressed_end o hop.iface.number w holdtime in
    elim ((n.1).kind) [
      | EntryKind.Star ↦ (if same_hop (rpf_star o g) (Some hop) then raise_join_timer s (star_key 0 g) end else s)
      | EntryKind.Source ↦ (if same_hop (rpf_source o g address) (Some hop)
          then raise_join_timer s (source_key 0 g address) end else s)
      | EntryKind.SourceRpt ↦ (if is_unpruned_towards o hop g address
          then cancel_override_timer s (rpt_key 0 g address) else s)
    ]

-- the joined sources of a group with RPF'(S,G) the neighbour
unfoldable pub sources_joined_towards : State → Hop → ℕ → List ℕ
sources_joined_towards o hop g =
    filter (λ src. same_hop (rpf_source o g src) (Some hop))
    (map source_in (filter (λ k. is_of_group g k && not (is_star k)) (keys_in o.join_timers)))

-- see a Prune to RPF'(S,G): Decrease Join Timer to t_override (4.5.5)
abbrev pub lower_source_timer : State → ℕ → Hop → ℕ → ℕ → State → State
lower_source_timer o w hop g src s =
    if same_hop (rpf_source o g src) (Some hop)
    then lower_join_timer s (source_key 0 g src) (override_end o hop.iface.number w) else s

-- see a Prune to RPF'(S,G,rpt), in NotPruned: OT = min(OT, t_override) (4.5.7)
abbrev pub lower_tree_timer : State → ℕ → Hop → ℕ → ℕ → State → State
lower_tree_timer o w hop g src s =
    if is_unpruned_towards o hop g src
    then lower_override_timer s (rpt_key 0 g src) (override_end o hop.iface.number w) else s

-- see Prune(*,G) to RPF'(*,G): Decrease Join Timer to t_override (4.5.4)
abbrev pub lower_star_timer : State → ℕ → Hop → ℕ → State → State
lower_star_timer o w hop g s =
    if same_hop (rpf_star o g) (Some hop)
    then lower_join_timer s (star_key 0 g) (override_end o hop.iface.number w) else s

-- See a Prune: a Prune(*,G) is for (*,G) and the sources joined by the same neighbour, a Prune of (S,G) or (S,G,rpt)
-- for both machines of the source (4.5.4, 4.5.5, 4.5.7)
unfoldable pub prune_seen : State → ℕ → Hop → State → Named → State
prune_seen o w hop s n =
    let g : ℕ = n.0 in
    let address : ℕ = (n.1).address.bits in
    elim ((n.1).kind) [
      | EntryKind.Star ↦
          fold (λ t src. lower_source_timer o w hop g src t) (lower_star_timer o w hop g s)
          (sources_joined_towards o hop g)
      | EntryKind.Source ↦ lower_tree_timer o w hop g address (lower_source_timer o w hop g address s)
      | EntryKind.SourceRpt ↦ lower_tree_timer o w hop g address (lower_source_timer o w hop g address s)
    ]

-- the entry is of (*,G)
abbrev pub is_star_entry : Named → Bool
is_star_entry n = is_kind (n.1).kind EntryKind.Star

-- a Join/Prune to another router is seen; here: first its accepted Join(*,G), then its other joins, then its prunes
unfoldable pub seen : State → ℕ → ℕ → JoinPrune → State
seen s w i m =
    let hop : Hop = hop_at i m.upstream in
    let joins : List Named = accepted_joins s m in
    let after_stars : State = fold (join_seen s m.holdtime w hop) s (filter is_star_entry joins) in
    let after_joins : State =
    fold (join_seen s m.holdtime w hop) after_stars (filter (λ n. not (is_star_entry n)) joins) in
    fold (prune_seen s w hop) after_joins (accepted_prunes m)
