use Rattle.law_streams.{proofs.SourceTreeRoom.own_packet_keeps_room}
use Rattle.law_streams.proofs.source_tree.own_packet_keeps_room.Goals as goal

pub returns : goal.returns
returns c = own_packet_keeps_room
