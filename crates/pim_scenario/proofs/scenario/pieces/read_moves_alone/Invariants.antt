-- Whatever the text is that ends so, the moves so far are said by what is read of it.
use Rattle.std.{proofs.Common.{◌≡◌, ℕ, List, [], None}}
use denote.{Shadow.shadow, Text.Utf8}
use Rattle.toml.{specs.Tables.{Nodes, get_node}}
use Rattle.pim_scenario.{specs.Pieces.{HasMoves, move_key}}
use Rattle.pim_scenario.proofs.scenario.pieces.read_moves_alone.Given as goal

abbrev pub invariant-moves : goal.invariant-moves
invariant-moves l =
    shadow (Utf8 l.rest)
    × ((text : List ℕ) (ns : Nodes) → get_node move_key ns ≡ None → HasMoves text ns l.routers [] l.text
    → HasMoves text ns l.routers l.moves l.rest)
