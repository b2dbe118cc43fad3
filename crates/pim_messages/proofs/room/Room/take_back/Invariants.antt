use Rattle.std.{proofs.Common.length}
use Rattle.pim_messages.proofs.room.Room.take_back.Given as goal

abbrev pub decreases-loop-packet : goal.decreases-loop-packet
decreases-loop-packet l = length l.packets.items
