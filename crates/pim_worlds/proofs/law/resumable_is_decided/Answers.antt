use Rattle.pim_worlds.{proofs.RestedTests.resumable_is_decided}
use Rattle.pim_worlds.proofs.law.resumable_is_decided.Goals as goal

pub returns : goal.returns
returns c = resumable_is_decided
