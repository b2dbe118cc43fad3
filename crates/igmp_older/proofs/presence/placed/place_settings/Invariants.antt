use Rattle.std.{proofs.Common.{◌≡◌, map}, specs.List.range_with_len}
use Rattle.igmp_older.{specs.Placed.setting_placed}
use Rattle.igmp_older.proofs.presence.placed.place_settings.Given as goal

abbrev pub invariant-loop-number : goal.invariant-loop-number
invariant-loop-number g l =
    l.placed.items ≡ map (setting_placed l.places l.unset l.settings.items) (range_with_len 0 l.number)
