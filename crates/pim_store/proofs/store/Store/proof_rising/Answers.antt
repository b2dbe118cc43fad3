use Rattle.std.{proofs.Common.subst}
use Rattle.pim_store.{specs.PimTables.AllRise}
use Rattle.pim_store.proofs.store.Store.proof_rising.Goals as goal

pub returns : goal.returns
returns c =
    subst (λ f. AllRise f) c.self.view_is
    (record {
      downstream = c.proof_rising.ensures;
      asserts = c.proof_rising-2.ensures;
      join_timers = c.proof_keyed_timers.ensures.rising;
      override_timers = c.proof_rising-3.ensures;
      sources = c.proof_rising-4.ensures;
      registers = c.proof_rising-5.ensures;
    })
