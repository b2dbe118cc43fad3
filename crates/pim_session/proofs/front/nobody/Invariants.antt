use Rattle.std.{proofs.Common.{◌≡◌, replicate}}
use Rattle.igmp_older.{specs.declared.setting.OlderHosts.OlderHosts}
use Rattle.pim_session.proofs.front.nobody.Given as goal

abbrev pub invariant-loop-place : goal.invariant-loop-place
invariant-loop-place l = l.hosts.items ≡ replicate l._place OlderHosts.Nobody
