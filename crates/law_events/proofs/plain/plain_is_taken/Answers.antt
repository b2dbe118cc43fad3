use Rattle.law_events.{proofs.PlainPackets.plain_is_taken}
use Rattle.law_events.proofs.plain.plain_is_taken.Goals as goal

pub returns : goal.returns
returns c = λ s w i p how rests there is. plain_is_taken s p rests there w i how is
