use Rattle.std.{proofs.Common.◌≡◌, specs.{List.list_all, Prelude.{nat_le, ◌+◌}}}
use Rattle.pim_worlds.proofs.near.are_hellos_near.Given as goal

abbrev pub invariant-loop-row : goal.invariant-loop-row
invariant-loop-row l =
    list_all (λ e. nat_le (e.1).hello_end (l.world.present + 30000)) l.row-iterator
    ≡ list_all (λ e. nat_le (e.1).hello_end (l.fn.world.present + 30000)) l.fn.rows
