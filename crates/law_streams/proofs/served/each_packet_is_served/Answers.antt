use Rattle.law_streams.{proofs.Whole.each_packet_is_served}
use Rattle.law_streams.proofs.served.each_packet_is_served.Goals as goal

pub returns : goal.returns
returns c = each_packet_is_served
