use Rattle.std.{proofs.Common.{◌≡◌, ◌++◌}}
use Rattle.pim_worlds.proofs.rows.listed_sources.Given as goal

abbrev pub invariant-loop-key : goal.invariant-loop-key
invariant-loop-key l = l.list.items ++ l.key-iterator ≡ l.fn.rows
