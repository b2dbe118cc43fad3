use Rattle.std.{proofs.{Common.{ap, ◌∙◌}, lemmas.Result.on_ok_weaker}}
use Rattle.pim_types.{specs.{Keys.source_key, declared.fact.SourceRow.SourceRow}}
use Rattle.pim_model.{specs.{Asserts.without_spt_bit, State.State, Tables.{Table, set_row}}}
use Rattle.pim_store.{specs.PimTables.PimTables}
use Rattle.pim_state.{proofs.Lent.stored_on_ok}
use Rattle.pim_asserts.{proofs.SptBit.bit_forgotten}
use Rattle.pim_asserts.proofs.clearing.forget_spt_bit.Goals as goal

pub returns : goal.returns
unfolding without_spt_bit
returns c =
    let s = c.args.world.now in
    let key = source_key 0 c.args.name.group.bits c.args.name.source.bits in
    on_ok_weaker c.set_source.result
    (λ e. e ∙ ap (λ (t : Table SourceRow). let u : State = record s { sources = t } in u)
    (ap (set_row s.sources key) c.then_some-left.ensures
    ∙ bit_forgotten key s.sources c.args.row c.is_some.result c.proof_keyed.ensures.sources_rise c.requires c.is_some.ensures))
    (stored_on_ok s c.set_source.result _ _ (λ (f : PimTables). record f {
      sources = set_row f.sources key c.then_some-left.result;
    }) c.store_mut.ensures.value c.set_source.ensures)
