-- When announcements of RPs that share an address are due while time passes.
use Rattle.std.{specs.{Option.option_map_or, Prelude.{List, None, Option, Some, [], if◌then◌else◌, nat_le, nat_lt, suc, zero, ℕ, ◌∷◌}}}
use Rattle.pim_model.{specs.Judging.last_moment}
use Rattle.pim_anycast.{specs.{Announced.next_announcement, declared.set.RpSet.RpSet}}

-- How often announcements may be due while time passes and no packet comes, after which no source is known: a keepalive
-- timer lasts 210 s at most.
abbrev pub most_stops : ℕ
most_stops = 4

-- a timestamp, if it is before another
abbrev pub if_before : ℕ → Option ℕ → Option ℕ
if_before moment None = None
if_before moment (Some next) = if nat_lt next moment then Some next else None

-- when announcements are due next from one timestamp on, if that is before another
unfoldable pub next_stop : List RpSet → ℕ → ℕ → Option ℕ
next_stop sets moment present = if_before moment (next_announcement sets present)

-- the first timestamps of these, at most so many
unfoldable pub stops_from : ℕ → List RpSet → ℕ → ℕ → List ℕ
stops_from zero sets moment present = []
stops_from (suc n) sets moment present =
    option_map_or (λ next. next ∷ stops_from n sets moment next) (next_stop sets moment present) []

-- The timestamps at which announcements are due on the way from one to another, which an event may have.
unfoldable pub stops_on : List RpSet → ℕ → ℕ → List ℕ
stops_on sets present moment = if nat_le moment last_moment then stops_from most_stops sets moment present else []
