use Rattle.law_converges.{proofs.SentUpstream.each_message_is_due}
use Rattle.law_converges.proofs.joins.each_message_is_due.Goals as goal

pub returns : goal.returns
returns c = each_message_is_due
