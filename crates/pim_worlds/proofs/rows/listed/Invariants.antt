use Rattle.std.{proofs.Common.{◌≡◌, ◌++◌}}
use Rattle.pim_worlds.proofs.rows.listed.Given as goal

abbrev pub invariant-loop-key : goal.invariant-loop-key
invariant-loop-key g l = l.list.items ++ l.key-iterator ≡ l.fn.rows
