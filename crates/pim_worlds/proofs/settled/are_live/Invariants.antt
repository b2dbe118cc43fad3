use Rattle.std.{proofs.Common.◌≡◌, specs.{List.list_all, Prelude.{is_some, ◌||◌}}}
use Rattle.pim_worlds.proofs.settled.are_live.Given as goal

abbrev pub invariant-loop-row : goal.invariant-loop-row
invariant-loop-row l = list_all (λ e. is_some (e.1).keepalive || (e.1).spt) l.row-iterator ≡ list_all (λ e. is_some (e.1).keepalive || (e.1).spt) l.fn.rows
