use Rattle.law_events.{proofs.PlainPackets.plain_keeps_cache}
use Rattle.law_events.proofs.plain.plain_keeps_cache.Goals as goal

pub returns : goal.returns
returns c = plain_keeps_cache
