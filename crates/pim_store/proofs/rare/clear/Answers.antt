use Rattle.pim_store.{proofs.Changed.nothing_to_clear}
use Rattle.pim_store.proofs.rare.clear.Goals as goal

pub returns-in_default-clause-same : goal.returns-in_default-clause-same
returns-in_default-clause-same c = rw c.in_default.is (nothing_to_clear c.args.mark c.args.iface.number)
