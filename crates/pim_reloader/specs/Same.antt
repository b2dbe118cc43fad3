-- Two configurations that differ in nothing but their settings.
use Rattle.std.{specs.Prelude.◌≡◌}
use Rattle.pim_model.{specs.State.State}

-- Both states are under the same interfaces, own addresses, routes and RP ranges.
abbrev pub DifferInSettings : State → State → Type 0
DifferInSettings s next =
    (s.configured ≡ next.configured) × (s.routes ≡ next.routes)
    × (s.ranges.static_ranges ≡ next.ranges.static_ranges)
