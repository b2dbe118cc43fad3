use Rattle.std.{proofs.Common.{◌≡◌, ◌++◌, replicate, take}}
use Rattle.igmp_older.proofs.presence.resized.resize_settings.Given as goal

abbrev pub invariant-loop-place : goal.invariant-loop-place
invariant-loop-place g l = l.settings.items ≡ take l.count l.fn.settings.items ++ replicate l._place l.unset
