-- What a Join/Prune between other routers does to timers (RFC 7761, sections 4.5.4, 4.5.5 and 4.5.7), key by key.
use Rattle.std.{specs.{Option.option_map_or, Prelude.{Bool, List, None, Option, Some, [], false, filter, flat_map, if◌then◌else◌, true, ℕ, ◌++◌, ◌∷◌}}}
use Rattle.pim_ip.{specs.declared.addr.Addr.Addr}
use Rattle.pim_types.{specs.{declared.{fact.{JoinTimerRow.JoinTimerRow, Key.Key}, path.Hop.Hop}, Keys.{is_of_group, is_star}}}
use Rattle.pim_model.{specs.{Desires.{rpf_source, rpf_star}, Seen.is_unpruned_towards, State.State, Tables.{Table, same_bool, same_hop}}}
use Rattle.pim_rpt.{specs.declared.change.Change.Change}
use Rattle.pim_upstream.{specs.declared.timer.TimerMove.TimerMove}

-- a change of a timer as a list, where it is to be made
abbrev pub heard_if : Bool → TimerMove → List TimerMove
heard_if b change = if b then change ∷ [] else []

-- the upstream neighbour of (*,G), and of (S,G), is this one
abbrev pub is_star_towards : State → Hop → ℕ → Bool
is_star_towards o hop g = same_hop (rpf_star o g) (Some hop)

-- the upstream neighbour of (S,G) is the given one
abbrev pub is_source_towards : State → Hop → ℕ → ℕ → Bool
is_source_towards o hop g src = same_hop (rpf_source o g src) (Some hop)

-- the Join timers of a group
abbrev pub timers_of : State → ℕ → Table JoinTimerRow
timers_of o g = filter (λ e. is_of_group g e.0) o.join_timers

module _ (o : State) (hop : Hop) (end : ℕ) where
  -- What a Join to the router's upstream neighbour moves: the router's own is suppressed until a timestamp, and its
  -- override isn't wanted.
  unfoldable pub heard_of_join : Addr → Option Addr → Bool → List TimerMove
  heard_of_join group None rpt = heard_if (is_star_towards o hop group.bits) (TimerMove.RaiseJoin group None end)
  heard_of_join group (Some source) true =
      heard_if (is_unpruned_towards o hop group.bits source.bits) (TimerMove.Override (record { source = source; group = group }) Change.Cancel)
  heard_of_join group (Some source) false =
      heard_if (is_source_towards o hop group.bits source.bits) (TimerMove.RaiseJoin group (Some source) end)

  abbrev pub heard_in_join : Key → List TimerMove
  heard_in_join k = heard_of_join k.group k.source k.rpt

  -- What overheard Joins move, by their keys: those of (*,G), or the others.
  unfoldable pub heard_in_joins : Bool → List Key → List TimerMove
  heard_in_joins star keys =
      flat_map (λ (k : Key). if same_bool star (is_star k) then heard_in_join k else []) keys

  -- The Join of a source is to leave by a timestamp.
  unfoldable pub heard_of_source : Addr → Addr → List TimerMove
  heard_of_source group source =
      heard_if (is_source_towards o hop group.bits source.bits) (TimerMove.LowerJoin group (Some source) end)

  unfoldable pub heard_of_timer : Addr → Key → List TimerMove
  heard_of_timer group k = option_map_or (heard_of_source group) k.source []

  -- What an overheard Prune moves of the sources of the group that have a Join timer.
  unfoldable pub heard_of_timers : Addr → Table JoinTimerRow → List TimerMove
  heard_of_timers group timers = flat_map (λ (e : Key × JoinTimerRow). heard_of_timer group e.0) timers

  -- What a Prune to the router's upstream neighbour moves: a Join that overrides it is to leave by a timestamp.
  unfoldable pub heard_of_prune : Addr → Option Addr → List TimerMove
  heard_of_prune group None =
      heard_if (is_star_towards o hop group.bits) (TimerMove.LowerJoin group None end)
      ++ heard_of_timers group (timers_of o group.bits)
  heard_of_prune group (Some source) =
      heard_of_source group source
      ++ heard_if (is_unpruned_towards o hop group.bits source.bits)
      (TimerMove.Override (record { source = source; group = group }) (Change.LowerTo end))

  unfoldable pub heard_in_prunes : List Key → List TimerMove
  heard_in_prunes keys = flat_map (λ (k : Key). heard_of_prune k.group k.source) keys
