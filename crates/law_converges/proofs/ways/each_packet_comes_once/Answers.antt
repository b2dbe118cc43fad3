use Rattle.law_converges.{proofs.ComesOnce.each_packet_comes_once}
use Rattle.law_converges.proofs.ways.each_packet_comes_once.Goals as goal

pub returns : goal.returns
returns c = each_packet_comes_once
