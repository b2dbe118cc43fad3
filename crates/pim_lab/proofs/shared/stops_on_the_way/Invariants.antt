-- The timestamps so far, and those that are left.
use Rattle.std.{proofs.Common.{◌≡◌, ◌++◌, ◌-◌}}
use Rattle.pim_lab.{specs.Stops.{most_stops, stops_from}}
use Rattle.pim_lab.proofs.shared.stops_on_the_way.Given as goal

abbrev pub invariant-announcements : goal.invariant-announcements
invariant-announcements l =
    l.found.items ++ stops_from (most_stops - l.counter) l.anycast l.moment l.passed
    ≡ stops_from most_stops l.anycast l.moment l.present
