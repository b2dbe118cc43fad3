use Rattle.pim_worlds.{proofs.SettledTests.settled_is_decided}
use Rattle.pim_worlds.proofs.settled.settled_is_decided.Goals as goal

pub returns : goal.returns
returns c = settled_is_decided
