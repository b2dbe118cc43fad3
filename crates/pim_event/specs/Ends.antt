-- The expiry of timers, as the router takes it.
use Rattle.std.{specs.{List.list_any, Prelude.{Bool, [], false, if◌then◌else◌, is_some, not, ℕ, ◌&&◌, ◌==◌, ◌∷◌, ◌||◌}}}
use Rattle.pim_types.{specs.{declared.{fact.Key.Key, timer.{Timer.Timer, TimerKind.TimerKind}}, Keys.{group_in, iface_in, source_in, source_key, star_key}}}
use Rattle.pim_model.{specs.{Querier.group_end, Records.is_at_group, State.State, Timers.Ending}}
use Rattle.law_events.{specs.{Touches.touched_by, Adjacent.{end_keeps_dr, keys_of_end}}}
use Rattle.pim_state.{specs.declared.touched.Touched.Touched}
use Rattle.pim_rerouted.{specs.Few.few_or_all}

abbrev pub ending_of : ℕ × Timer → Ending
ending_of due = record { end = due.0; timer = due.1 }

-- The record of the group on the interface has a source other than this one.
unfoldable pub has_other_sources : State → ℕ → ℕ → ℕ → Bool
has_other_sources s i g src = list_any (λ e. is_at_group i g e.0 && not (source_in e.0 == src)) s.source_records

-- The row of the group itself is unchanged where the timer of this source expires: the group is in EXCLUDE, or another
-- source is left.
unfoldable pub keeps_group : State → ℕ → ℕ → ℕ → Bool
keeps_group s i g src = is_some (group_end s i g) || has_other_sources s i g src

-- The expiry of a source's timer touches the source alone, or all of its group.
unfoldable pub touched_by_source : State → Key → Key
touched_by_source s k =
    if keeps_group s (iface_in k) (group_in k) (source_in k) then source_key 0 (group_in k) (source_in k)
    else star_key 0 (group_in k)

-- The expiry of a neighbour touches what depends on it, and what asks whether the router is the DR of its interface, where
-- that changes.
abbrev pub touched_by_neighbour : State → Key → Touched
touched_by_neighbour s k = few_or_all (keys_of_end s k)

-- The keys that the expiry of a timer touches.
abbrev pub touched_by_end : State → TimerKind → Key → Touched
touched_by_end s TimerKind.Neighbour k = touched_by_neighbour s k
touched_by_end s TimerKind.SourceRecord k = Touched.Keys (touched_by_source s k ∷ [])
touched_by_end s kind k = Touched.Keys (touched_by kind k)

-- The router becomes the DR of an interface by the expiry of a timer, or is no more.
unfoldable pub end_moves_dr : State → TimerKind → Key → Bool
end_moves_dr s TimerKind.Neighbour k = not (end_keeps_dr s k)
end_moves_dr s kind k = false

-- What the expiry of a timer disturbs: all sources where the router becomes the DR, or is no more, since a source without
-- a fact on its link may then be registered, or no more; else what it touches.
abbrev pub disturbed_by_end : State → TimerKind → Key → Touched
disturbed_by_end s kind k = if end_moves_dr s kind k then Touched.All else touched_by_end s kind k
