use Rattle.law_streams.{proofs.EndSoon.each_override_ends_soon}
use Rattle.law_streams.proofs.promises.each_override_ends_soon.Goals as goal

pub returns : goal.returns
returns c = each_override_ends_soon
