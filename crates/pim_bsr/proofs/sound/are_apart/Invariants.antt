use Rattle.std.{proofs.Common.{◌≡◌, drop}}
use Rattle.pim_bsr.{specs.Sound.are_apart}
use Rattle.pim_bsr.proofs.sound.are_apart.Given as goal

abbrev pub invariant-loop-place : goal.invariant-loop-place
invariant-loop-place l = are_apart (drop l.place l.ranges) ≡ are_apart l.ranges
