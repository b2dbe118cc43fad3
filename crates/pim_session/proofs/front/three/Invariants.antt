use Rattle.std.{proofs.Common.{◌≡◌, replicate}}
use Rattle.igmp_older.{specs.declared.setting.QueryVersion.QueryVersion}
use Rattle.pim_session.proofs.front.three.Given as goal

abbrev pub invariant-loop-place : goal.invariant-loop-place
invariant-loop-place l = l.versions.items ≡ replicate l._place QueryVersion.Three
