use Rattle.std.{proofs.Common.{ap, filter, ◌∙◌}}
use Rattle.pim_types.{specs.Keys.{is_of_group, is_on}}
use Rattle.pim_model.{specs.Records.is_at_group}
use Rattle.pim_store.{proofs.Fitting.{all_fit, of_router_when_source, passed_by_all}}
use Rattle.pim_store.proofs.store.Store.registers_of.Goals as goal

pub returns : goal.returns
returns c = rw (← c.self.view_is)
    (c.rows_at.ensures ∙ ap (filter (λ e. is_at_group 0 c.args.group.bits e.0)) c.rows.ensures
    ∙ passed_by_all (λ e. is_on 0 e.0) (λ e. is_of_group c.args.group.bits e.0) c.self.inside.registers
    (all_fit (is_on 0) c.self.inside.registers
    (λ k there. of_router_when_source k (c.self.invariant.registers.fit k there))))
