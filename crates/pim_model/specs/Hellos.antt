-- Hellos received and sent. Sections are those of RFC 7761.
use Rattle.std.{specs.Prelude.{Bool, List, None, Option, Some, [], false, filter, if◌then◌else◌, map, min, not, option_and_then, true, unwrap_or, ℕ, ◌&&◌, ◌+◌, ◌==◌, ◌||◌, ◌∷◌}}
use Rattle.pim_types.{specs.{Keys.{group_in, iface_in, is_on, is_star, neighbour_key, source_in}, declared.{fact.{AssertRow.AssertRow, InterfaceRow.InterfaceRow, JoinTimerRow.JoinTimerRow, Key.Key, NeighbourRow.NeighbourRow}, path.Hop.Hop}}}
use Rattle.pim_wire.{specs.declared.hello.Hello.Hello as HelloValue}
use Rattle.pim_model.{specs.{Desires.{rpf_source, rpf_star}, Downstream.holdtime_end_from, Messages.Message, Neighbours.{is_neighbour, t_override}, Sets.is_loser, State.State, Tables.{change_row, delay_in, drop_at, hop_at, row_at, same_hop, set_row, Table}}}

-- Default_Hello_Holdtime (4.11), in seconds: for a Hello without a Holdtime option (4.3.2)
abbrev pub default_holdtime : ℕ
default_holdtime = 105

-- Hello_Period (4.11), in ms
abbrev pub hello_period : ℕ
hello_period = 30000

-- Triggered_Hello_Delay (4.11), in ms
abbrev pub triggered_hello_delay : ℕ
triggered_hello_delay = 5000

-- Hello_Holdtime, in seconds
abbrev pub hello_holdtime_of : HelloValue → ℕ
hello_holdtime_of h = unwrap_or h.holdtime default_holdtime

-- a new GenID: both are known and differ (4.3.1)
abbrev pub is_other_generation : Option ℕ → Option ℕ → Bool
is_other_generation (Some m) (Some n) = not (m == n)
is_other_generation _ _ = false

-- the neighbour is known by another GenID than the Hello's
unfoldable pub is_generation_changed_among : Table NeighbourRow → ℕ → ℕ → HelloValue → Bool
is_generation_changed_among rows i address h =
    is_other_generation
    (option_and_then (λ (r : NeighbourRow). r.generation) (row_at rows (neighbour_key i address))) h.generation

-- the neighbour is known in the state by another GenID than the Hello's
unfoldable pub is_generation_changed : State → ℕ → ℕ → HelloValue → Bool
is_generation_changed s i address h = is_generation_changed_among s.neighbours i address h

-- a Hello is owed, before the next Join/Prune or Assert; here: the Hello Timer itself is lowered to a timestamp
unfoldable pub hellos_triggered : ℕ → ℕ → Table InterfaceRow → Table InterfaceRow
hellos_triggered i end rows =
    map (λ (e : Key × InterfaceRow).
    if is_on i e.0 then (e.0, record e.1 { hello_end = min (e.1).hello_end end; is_hello_owed = true }) else e) rows

-- a triggered Hello leaves within rand(0, Triggered_Hello_Delay) (4.3.1); here: after at least 1 ms
unfoldable pub hello_triggered : State → ℕ → ℕ → State
hello_triggered s i w =
    let end : ℕ = s.present + delay_in 1 triggered_hello_delay w in
    record s { interfaces = hellos_triggered i end s.interfaces }

-- the row that a Hello leaves of its neighbour (4.3.1): NLT(N,I) is set to its holdtime (4.3.2), and with holdtime 0 there
-- is no row
abbrev pub row_of_hello : ℕ → HelloValue → Option NeighbourRow
row_of_hello present h =
    if hello_holdtime_of h == 0 then None
    else Some (record {
      end = holdtime_end_from present (hello_holdtime_of h);
      lan_delay = h.lan_delay;
      priority = h.priority;
      generation = h.generation;
    })

-- the values of a Hello replace what was known of its neighbour (4.3.1)
unfoldable pub neighbours_replaced : ℕ → ℕ → ℕ → HelloValue → Table NeighbourRow → Table NeighbourRow
neighbours_replaced present i address h rows = set_row rows (neighbour_key i address) (row_of_hello present h)

-- the state in which the values of a Hello replace what was known of its neighbour (4.3.1, 4.3.2)
unfoldable pub neighbour_replaced : State → ℕ → ℕ → HelloValue → State
neighbour_replaced s i address h = record s { neighbours = neighbours_replaced s.present i address h s.neighbours }

-- an assert that the router lost to the neighbour
abbrev pub is_lost_to : ℕ → ℕ → Key × AssertRow → Bool
is_lost_to i address e = is_on i e.0 && is_loser (Some e.1) && ((e.1).winner.address.bits == address)

-- RPF'(*,G), or RPF'(S,G), by the key of a Join Timer (4.1.5)
abbrev pub upstream_of : State → Key → Option Hop
upstream_of s k = if is_star k then rpf_star s (group_in k) else rpf_source s (group_in k) (source_in k)

-- Current Winner's GenID Changes: asserts lost to it -> NI (4.6.1, 4.6.2); RPF' GenID changes: Decrease Join Timer to
-- t_override (4.5.4, 4.5.5). o is the state that the Hello finds
unfoldable pub neighbour_restarted : State → ℕ → ℕ → ℕ → State → State
neighbour_restarted o i address w s =
    let end : ℕ = s.present + t_override s i w in
    record s {
      asserts = filter (λ e. not (is_lost_to i address e)) s.asserts;
      join_timers = map (λ (e : Key × JoinTimerRow).
          if same_hop (upstream_of o e.0) (Some (hop_at i address))
          then (e.0, record { end = min (e.1).end end }) else e) s.join_timers;
    }

-- a Hello is received (4.3.1, 4.3.2); where it is of a new neighbour, or has a new GenID, it triggers a Hello
unfoldable pub hello_received : State → ℕ → ℕ → HelloValue → ℕ → State
hello_received s i address h w =
    let changed : Bool = is_generation_changed s i address h in
    let triggers : Bool = changed || not (is_neighbour s i address) in
    let triggered : State = (if triggers then hello_triggered s i w else s) in
    let replaced : State = neighbour_replaced triggered i address h in
    if changed then neighbour_restarted s i address w replaced else replaced

-- NLT(N,I) expires (4.3.2): the neighbour is removed
unfoldable pub neighbour_due : State → Key → State
neighbour_due s k = record s { neighbours = drop_at s.neighbours k }

-- the Hello Timer expires: a Hello leaves, and the next one after Hello_Period (4.3.1)
unfoldable pub hello_due : State → Key → InterfaceRow → State × List Message
hello_due s k r = (
  record s { interfaces = change_row (λ (old : InterfaceRow). Some (record r { hello_end = s.present + hello_period })) k s.interfaces },
  Message.Hello (iface_in k) ∷ [],
)
