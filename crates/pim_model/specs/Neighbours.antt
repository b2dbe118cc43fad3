-- PIM neighbours: NBR, the DR, and the delays of a LAN. Sections are those of RFC 7761.
use Rattle.std.{specs.{List.{list_all, list_any}, Option.option_map_or, Prelude.{Bool, None, Option, Some, false, fold, if◌then◌else◌, is_some, length, max, nat_lt, not, unwrap_or, ℕ, ◌&&◌, ◌+◌, ◌==◌}}}
use Rattle.pim_ip.{specs.declared.lan.LanDelay.LanDelay}
use Rattle.pim_types.{specs.{Keys.{neighbour_key, source_in}, declared.{fact.{Key.Key, NeighbourRow.NeighbourRow}, path.{Hop.Hop, Path.Path}}}}
use Rattle.pim_model.{specs.{State.{State, my_address, my_override_interval, my_priority, my_propagation_delay}, Tables.{Table, delay_in, has_row, rows_on}}}

-- a neighbour from whose address a Hello came, and whose Neighbor Liveness Timer NLT(N,I) runs (4.3.2)
abbrev pub is_neighbour : State → ℕ → ℕ → Bool
is_neighbour s i address = has_row s.neighbours (neighbour_key i address)

-- the neighbours on interface I
abbrev pub neighbours_on : State → ℕ → Table NeighbourRow
neighbours_on s i = rows_on i s.neighbours

-- how many neighbours are on the interface
abbrev pub neighbour_count : State → ℕ → ℕ
neighbour_count s i = length (neighbours_on s i)

-- NBR(I, A) (4.1.5), where the next hop of a route is A on I; none is NULL
-- here: A is compared with primary addresses alone, since secondary ones (4.3.4) aren't kept
unfoldable pub nbr_among : Table NeighbourRow → Option Path → Option Hop
nbr_among rows None = None
nbr_among rows (Some p) =
    if has_row rows (neighbour_key p.iface.number p.next_hop.bits)
    then Some (record { iface = p.iface; address = p.next_hop }) else None

-- NBR(RPF_interface(X), MRIB.next_hop(X)), by the route to X
-- reads: the neighbour row of the next hop
unfoldable pub nbr : State → Option Path → Option Hop
nbr s path = nbr_among s.neighbours path

-- there is no neighbour n on I for which n.dr_priority_present is false (4.3.2)
unfoldable pub all_have_priority : Table NeighbourRow → Bool
all_have_priority rows = list_all (λ e. is_some (e.1).priority) rows

-- dr_is_better(a, me, I) (4.3.2): a.primary_ip_address > mine where a neighbour has no priority, else
-- a.dr_priority > mine OR (a.dr_priority == mine AND a.primary_ip_address > mine)
unfoldable pub is_better_dr : Bool → ℕ → ℕ → Key × NeighbourRow → Bool
is_better_dr by_priority priority address e =
    let theirs : ℕ = unwrap_or (e.1).priority 0 in
    if by_priority && not (theirs == priority) then nat_lt priority theirs else nat_lt address (source_in e.0)

-- DR(I) == me (4.3.2): no neighbour is a better DR
unfoldable pub is_dr_among : ℕ → ℕ → Table NeighbourRow → Bool
is_dr_among priority address rows = not (list_any (is_better_dr (all_have_priority rows) priority address) rows)

-- I_am_DR(I) (4.3.2)
-- reads: the interface's configuration, the neighbour rows on it
unfoldable pub is_dr : State → ℕ → Bool
is_dr s i = is_dr_among (my_priority s i) (my_address s i) (neighbours_on s i)

-- Propagation_delay_default (4.11), in ms
abbrev pub default_propagation_delay : ℕ
default_propagation_delay = 500

-- t_override_default (4.11), in ms
abbrev pub default_override_interval : ℕ
default_override_interval = 2500

-- lan_delay_enabled(I) (4.3.3): there is no neighbour n on I for which n.lan_prune_delay_present is false
unfoldable pub all_have_lan_delay : Table NeighbourRow → Bool
all_have_lan_delay rows = list_all (λ e. is_some (e.1).lan_delay) rows

-- the greatest of the router's own delay and those of its neighbours (4.3.3)
unfoldable pub greatest_delay : (LanDelay → ℕ) → ℕ → Table NeighbourRow → ℕ
greatest_delay field mine rows = fold (λ most e. max most (option_map_or field (e.1).lan_delay 0)) mine rows

-- the default where NOT lan_delay_enabled(I), else the greatest delay of the router and its neighbours (4.3.3)
unfoldable pub effective_delay : (LanDelay → ℕ) → ℕ → ℕ → Table NeighbourRow → ℕ
effective_delay field default mine rows = if all_have_lan_delay rows then greatest_delay field mine rows else default

-- Effective_Propagation_Delay(I) (4.3.3), in ms, by the router's own delay and its neighbours on I
unfoldable pub propagation_delay_among : ℕ → Table NeighbourRow → ℕ
propagation_delay_among mine rows = effective_delay (λ d. d.propagation_delay) default_propagation_delay mine rows

-- Effective_Override_Interval(I) (4.3.3), in ms, by the router's own interval and its neighbours on I
unfoldable pub override_interval_among : ℕ → Table NeighbourRow → ℕ
override_interval_among mine rows = effective_delay (λ d. d.override_interval) default_override_interval mine rows

-- Effective_Propagation_Delay(I) (4.3.3) in a state, in ms
-- reads: the interface's configuration, the neighbour rows on it
unfoldable pub effective_propagation_delay : State → ℕ → ℕ
effective_propagation_delay s i = propagation_delay_among (my_propagation_delay s i) (neighbours_on s i)

-- Effective_Override_Interval(I) (4.3.3) in a state, in ms
-- reads: the interface's configuration, the neighbour rows on it
unfoldable pub effective_override_interval : State → ℕ → ℕ
effective_override_interval s i = override_interval_among (my_override_interval s i) (neighbours_on s i)

-- J/P_Override_Interval(I) = Effective_Propagation_Delay(I) + Effective_Override_Interval(I) (4.11), in ms
-- reads: the interface's configuration, the neighbour rows on it
unfoldable pub join_prune_override_interval : State → ℕ → ℕ
join_prune_override_interval s i = effective_propagation_delay s i + effective_override_interval s i

-- Suppression_Enabled(I) = NOT lan_delay_enabled(I) OR n.tracking_support is false for a neighbour n (4.3.3)
unfoldable pub is_suppression_among : Table NeighbourRow → Bool
is_suppression_among rows =
    not (list_all (λ e. option_map_or (λ (d : LanDelay). d.can_track) (e.1).lan_delay false) rows)

-- Suppression_Enabled(I) (4.3.3) in a state
-- reads: the neighbour rows on the interface
unfoldable pub is_suppression_on : State → ℕ → Bool
is_suppression_on s i = is_suppression_among (neighbours_on s i)

-- t_override = rand(0, Effective_Override_Interval(I)) (4.11), in ms; here: at least 1
unfoldable pub t_override_among : ℕ → Table NeighbourRow → ℕ → ℕ
t_override_among mine rows w = delay_in 1 (max 1 (override_interval_among mine rows)) w

-- t_override on I (4.11) in a state, in ms
-- reads: the interface's configuration, the neighbour rows on it
unfoldable pub t_override : State → ℕ → ℕ → ℕ
t_override s i w = t_override_among (my_override_interval s i) (neighbours_on s i) w

-- t_suppressed = rand(1.1 * t_periodic, 1.4 * t_periodic) if Suppression_Enabled(I), else 0 (4.11), in ms
unfoldable pub t_suppressed_among : Table NeighbourRow → ℕ → ℕ
t_suppressed_among rows w = if is_suppression_among rows then delay_in 66000 84000 w else 0

-- t_suppressed on I (4.11) in a state, in ms
-- reads: the neighbour rows on the interface
unfoldable pub t_suppressed : State → ℕ → ℕ → ℕ
t_suppressed s i w = t_suppressed_among (neighbours_on s i) w
