use Rattle.std.{proofs.Common.{◌≡◌, ◌++◌, map}}
use Rattle.pim_rows.{specs.Printed.active_line}
use Rattle.pim_shown.proofs.facts.active.Given as goal

abbrev pub invariant-loop-key : goal.invariant-loop-key
invariant-loop-key l = l.rows.items ++ map (active_line l.world) l.key-iterator ≡ map (active_line l.world) l.world.sources
