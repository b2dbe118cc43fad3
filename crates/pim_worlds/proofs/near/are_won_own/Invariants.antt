use Rattle.std.{proofs.Common.◌≡◌, specs.List.list_all}
use Rattle.law_states.{specs.Own.names_own}
use Rattle.pim_worlds.proofs.near.are_won_own.Given as goal

abbrev pub invariant-loop-key : goal.invariant-loop-key
invariant-loop-key l =
    list_all (names_own l.world) l.key-iterator ≡ list_all (names_own l.fn.world) l.fn.rows
