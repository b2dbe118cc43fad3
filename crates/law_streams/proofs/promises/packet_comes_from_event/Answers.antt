use Rattle.law_streams.{proofs.Brought.packet_comes_from_event}
use Rattle.law_streams.proofs.promises.packet_comes_from_event.Goals as goal

pub returns : goal.returns
returns c = packet_comes_from_event
