use Rattle.pim_worlds.{proofs.RestedTests.saved_is_resumed}
use Rattle.pim_worlds.proofs.law.saved_is_resumed.Goals as goal

pub returns : goal.returns
returns c = saved_is_resumed
