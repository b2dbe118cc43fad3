use Rattle.std.{proofs.Common.{◌≡◌, ◌++◌, map}}
use Rattle.pim_rows.{specs.Printed.upstream_line}
use Rattle.pim_shown.proofs.facts.timer_lines.Given as goal

abbrev pub invariant-loop-key : goal.invariant-loop-key
invariant-loop-key l = l.rows.items ++ map upstream_line l.key-iterator ≡ map upstream_line l.fn.timers
