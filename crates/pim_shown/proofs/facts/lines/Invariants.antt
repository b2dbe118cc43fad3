use Rattle.std.{proofs.Common.{◌≡◌, ◌++◌, map}}
use Rattle.pim_shown.proofs.facts.lines.Given as goal

abbrev pub invariant-loop-key : goal.invariant-loop-key
invariant-loop-key g l = l.rows.items ++ map g.R.Printed.line l.key-iterator ≡ map g.R.Printed.line l.fn.facts
