use Rattle.std.{proofs.Common.◌∙◌, specs.Borrow.Bor}
use Rattle.pim_types.{specs.declared.fact.{Key.Key, SourceRecordRow.SourceRecordRow}}
use Rattle.pim_model.{specs.Records.is_at_group}
use Rattle.pim_state.{proofs.FirstFound.any_by_first}
use Rattle.pim_plan.proofs.reports.has_sources.Goals as goal

pub returns : goal.returns
returns c =
    c.is_some.ensures
    ∙ any_by_first (λ e. is_at_group c.args.iface.number c.args.group.bits e.0)
    (λ (e : Bor Key × Bor SourceRecordRow). (e.0.now, e.1.now)) c.args.world.now.source_records _ c.next.new.self
    c.next.result (rw c.membership.ensures at c.source_records_at.ensures.rows) c.next.ensures.steps
