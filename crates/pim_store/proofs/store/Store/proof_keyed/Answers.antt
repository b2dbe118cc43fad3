use Rattle.std.{proofs.Common.subst}
use Rattle.pim_store.{proofs.Fitting.all_fit, specs.PimTables.{AreKeyed, is_assert_key, is_source_key}}
use Rattle.pim_store.proofs.store.Store.proof_keyed.Goals as goal

pub returns : goal.returns
returns c =
    subst (λ f. AreKeyed f) c.self.view_is
    (record {
      asserts = all_fit is_assert_key c.self.inside.asserts c.self.invariant.asserts.fit;
      sources = all_fit is_source_key c.self.inside.sources c.self.invariant.sources.fit;
      registers = all_fit is_source_key c.self.inside.registers c.self.invariant.registers.fit;
      asserts_rise = c.proof_rising.ensures;
      sources_rise = c.proof_rising-2.ensures;
      registers_rise = c.proof_rising-3.ensures;
    })
