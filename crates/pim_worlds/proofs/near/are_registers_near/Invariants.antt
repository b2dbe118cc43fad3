use Rattle.std.{proofs.Common.◌≡◌, specs.{List.list_all, Prelude.◌+◌}}
use Rattle.pim_model.{specs.Timers.register_end}
use Rattle.law_states.{specs.Ends.ends_by}
use Rattle.pim_worlds.proofs.near.are_registers_near.Given as goal

abbrev pub invariant-loop-row : goal.invariant-loop-row
invariant-loop-row l =
    list_all (λ e. ends_by (l.world.present + 85000) (register_end (e.1).state)) l.row-iterator
    ≡ list_all (λ e. ends_by (l.fn.world.present + 85000) (register_end (e.1).state)) l.fn.rows
