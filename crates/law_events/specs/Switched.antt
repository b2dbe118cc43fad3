-- An interface that goes up, or goes down with nothing on it, and over which nothing that has facts may be routed, moves
-- nothing.
use Rattle.std.{specs.{List.list_any, Option.option_map_or, Prelude.{Bool, List, [], false, is_some, slice_get, true, ℕ, ◌&&◌, ◌++◌, ◌==◌, ◌||◌, ◌≡◌}}}
use Rattle.pim_ip.{specs.Prefixes.contains}
use Rattle.pim_types.{specs.{declared.{config.{IfaceId.IfaceId, Route.Route}, fact.Key.Key}, Keys.{is_on, source_in}}}
use Rattle.pim_model.{specs.{declared.accepted.Accepted.Accepted, State.State, Step.change, Tables.keys_in, Unicast.{any_rp, subnet}, Upstream.fact_keys}}
use Rattle.law_events.{specs.Moved.MovesAlone}

-- An interface goes up or down.
abbrev pub is_switch : Accepted → Bool
is_switch (Accepted.Up i) = true
is_switch (Accepted.Down i) = true
is_switch a = false

-- the address is in the subnet of the interface
abbrev pub is_in_subnet : State → ℕ → ℕ → Bool
is_in_subnet s i address = option_map_or (λ c. contains (subnet c) address) (slice_get s.configured.interfaces i) false

-- Something may be routed over the interface: a route is over it, or its subnet has the RP of a range or a candidate, or a
-- fact's source.
unfoldable pub may_lead_over : State → ℕ → Bool
may_lead_over s i =
    list_any (λ (r : Route). r.iface.number == i) s.routes
    || any_rp (is_in_subnet s i) s.ranges
    || list_any (λ k. is_some k.source && is_in_subnet s i (source_in k)) (fact_keys s)

-- The keys of what goes with an interface that goes down, but its own row and its querier.
abbrev pub keys_beside : State → List Key
keys_beside s =
    keys_in s.neighbours ++ keys_in s.group_records ++ keys_in s.source_records ++ keys_in s.group_repeats
    ++ keys_in s.source_repeats ++ keys_in s.sendings ++ keys_in s.downstream ++ keys_in s.asserts

-- A neighbour, or a fact of a group or a source, is on the interface.
unfoldable pub has_any_on : State → ℕ → Bool
has_any_on s i = list_any (is_on i) (keys_beside s)

-- A neighbour or a fact is on the interface, or something with facts may be routed over it.
abbrev pub is_in_use : State → ℕ → Bool
is_in_use s i = has_any_on s i || may_lead_over s i

abbrev pub UpMovesNone : Type 0
UpMovesNone =
    (s : State) (w : ℕ) (i : IfaceId) → may_lead_over s i.number ≡ false
    → MovesAlone [] s (change s w (Accepted.Up i)).state

abbrev pub DownMovesNone : Type 0
DownMovesNone =
    (s : State) (w : ℕ) (i : IfaceId) → is_in_use s i.number ≡ false
    → MovesAlone [] s (change s w (Accepted.Down i)).state
