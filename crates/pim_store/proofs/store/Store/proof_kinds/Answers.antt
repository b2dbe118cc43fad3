use Rattle.std.{proofs.Common.{IsTrue, subst}}
use Rattle.pim_store.{proofs.Fitting.{all_fit, each_of_kind}, specs.{PimTables.{are_of_kind, is_assert_key, is_rpt_key, is_source_key}, Said.is_of_iface, Stored.tables_of}}
use Rattle.pim_store.proofs.store.Store.proof_kinds.Goals as goal

pub returns : goal.returns
returns c =
    subst (λ f. IsTrue (are_of_kind f)) c.self.view_is
    (each_of_kind (tables_of c.self.inside)
    (all_fit is_of_iface c.self.inside.downstream c.self.invariant.downstream.fit)
    (all_fit is_assert_key c.self.inside.asserts c.self.invariant.asserts.fit)
    c.proof_keyed_timers.ensures.kind
    (all_fit is_rpt_key c.self.inside.override_timers c.self.invariant.override_timers.fit)
    (all_fit is_source_key c.self.inside.sources c.self.invariant.sources.fit)
    (all_fit is_source_key c.self.inside.registers c.self.invariant.registers.fit))
