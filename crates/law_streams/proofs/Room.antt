-- A source whose fact is there needs no room.
use Rattle.std.{proofs.Common.{◌≡◌, ℕ, true, false, refl, arith}}
use Rattle.pim_types.{specs.Keys.source_key}
use Rattle.pim_model.{specs.{Downstream.is_named, Full.{distinct, needed, once_more, passes_limit, source_is_full}, Sets.spt_bit, State.State, Tables.has_row}}
use Rattle.law_streams.{specs.Passing.{IsOn, SourceTreeHasRoom, Tree, lacks_room}}

pub known_is_not_full : (s : State) (g src : ℕ) → has_row s.sources (source_key 0 g src) ≡ true → source_is_full s g src ≡ false
unfolding source_is_full passes_limit needed distinct once_more is_named
known_is_not_full s g src there = rw there refl

pub source_tree_has_room : SourceTreeHasRoom
unfolding spt_bit has_row
source_tree_has_room s g src up on = grind (arith, known_is_not_full)

pub has_room : (tree : Tree) (s : State) (g src up : ℕ) → IsOn tree s g src up → lacks_room tree s g src ≡ false
    → source_is_full s g src ≡ false
has_room Tree.Shared s g src up on room = room
has_room Tree.Source s g src up on room = source_tree_has_room s g src up on
