use Rattle.std.{proofs.Common.◌∙◌}
use Rattle.pim_querier.{proofs.{Lowered.sources_lowered, Starting.then_ok}}
use Rattle.pim_querier.proofs.lowering.lower_sources.Goals as goal

pub returns : goal.returns
returns c =
    then_ok c.lower_each.result
    (λ e. e
    ∙ sources_lowered c.args.place.iface.number c.args.place.group.bits c.args.end c.args.world.now c.args.sources.now
    (rw c.membership.ensures at c.proof_keyed_source_records.ensures))
    c.lower_each.ensures
