use Rattle.std.{proofs.Common.{ap, is_some, sym, ◌∙◌}}
use Rattle.pim_model.{specs.Records.with_repeats_of_rows}
use Rattle.pim_querier.{proofs.{OneSource.{end_excludes, end_includes}, Starting.then_ok}}
use Rattle.pim_querier.proofs.records.end_source.Goals as goal

pub returns-then-is_some : goal.returns-then-is_some
returns-then-is_some c =
    then_ok c.exclude_source.result
    (λ e. ap (λ t. with_repeats_of_rows t c.args.place.iface.number c.args.place.group.bits) e
    ∙ end_excludes c.args.place.iface.number c.args.place.group.bits c.args.source.bits c.args.world.now
    (rw c.membership.ensures at c.proof_rising_source_records.ensures) (rw c.membership-2.ensures at c.proof_keyed_source_records.ensures)
    (ap (λ o. is_some o) (sym c.group_end.ensures) ∙ sym c.is_some.ensures ∙ c.if-is_some.true))
    c.exclude_source.ensures

pub returns : goal.returns
returns c =
    ap (λ t. with_repeats_of_rows t c.args.place.iface.number c.args.place.group.bits) c.drop_source.ensures
    ∙ end_includes c.args.place.iface.number c.args.place.group.bits c.args.source.bits c.args.world.now
    (rw c.membership.ensures at c.proof_rising_source_records.ensures) (rw c.membership-2.ensures at c.proof_keyed_source_records.ensures)
    (ap (λ o. is_some o) (sym c.group_end.ensures) ∙ sym c.is_some.ensures ∙ c.if-is_some.false)
