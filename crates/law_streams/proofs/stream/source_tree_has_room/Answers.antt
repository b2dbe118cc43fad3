use Rattle.law_streams.{proofs.Room.source_tree_has_room}
use Rattle.law_streams.proofs.stream.source_tree_has_room.Goals as goal

pub returns : goal.returns
returns c = source_tree_has_room
