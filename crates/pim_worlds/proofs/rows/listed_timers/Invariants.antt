use Rattle.std.{proofs.Common.{◌≡◌, ◌++◌}}
use Rattle.pim_worlds.proofs.rows.listed_timers.Given as goal

abbrev pub invariant-loop-row : goal.invariant-loop-row
invariant-loop-row l = l.list.items ++ l.row-iterator ≡ l.fn.rows
