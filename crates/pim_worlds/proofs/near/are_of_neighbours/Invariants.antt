use Rattle.std.{proofs.Common.◌≡◌, specs.List.list_all}
use Rattle.law_states.{specs.Kinds.is_of_neighbour}
use Rattle.pim_worlds.proofs.near.are_of_neighbours.Given as goal

abbrev pub invariant-loop-key : goal.invariant-loop-key
invariant-loop-key l =
    list_all is_of_neighbour l.key-iterator ≡ list_all is_of_neighbour l.fn.rows
