use Rattle.std.{proofs.Common.◌≡◌, specs.List.list_all}
use Rattle.law_states.{specs.ReloadLaws.is_near_by}
use Rattle.pim_worlds.proofs.near.are_queriers_near.Given as goal

abbrev pub invariant-loop-row : goal.invariant-loop-row
invariant-loop-row l =
    list_all (λ e. is_near_by l.world.present l.world.settings e.1 (e.1).role) l.row-iterator
    ≡ list_all (λ e. is_near_by l.fn.world.present l.fn.world.settings e.1 (e.1).role) l.fn.rows
