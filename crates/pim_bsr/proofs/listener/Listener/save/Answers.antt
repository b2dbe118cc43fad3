use Rattle.std.{proofs.Common.subst}
use Rattle.pim_bsr.{specs.{Sound.IsSoundTable, Table.Known}, proofs.Restored.saved_is_restored}
use Rattle.pim_bsr.proofs.listener.Listener.save.Goals as goal

pub returns-clause-again : goal.returns-clause-again
returns-clause-again c =
    saved_is_restored c.args.self.now c.in_ok-write_front.ensures.fitting
    (subst (λ (k : Known). IsSoundTable k.static k.limit k.table) c.self.view_is c.self.invariant)
