use Rattle.std.{proofs.Common.{◌+◌, drop, refl, ap, ◌∙◌}}
use Rattle.pim_types.{specs.declared.fact.AssertRow.AssertRow}
use Rattle.pim_model.{specs.{Downstream.is_named, Sets.is_loser, Tables.Table}}
use Rattle.pim_store.{proofs.Losses.{one_further, past_last, staying}, specs.PimTables.PimTables}
use Rattle.pim_store.proofs.store.Store.end_losses.Goals as goal

pub loop-key-preserved : goal.loop-key-preserved
loop-key-preserved c =
    ap (λ (f : PimTables).
    record f { asserts = staying is_loser (drop (c.loop-key.key-index + 1) c.args.keys.now) f.asserts }) c.end_loss.ensures
    ∙ ap (λ (t : Table AssertRow). record c.loop-key.self { asserts = t })
    (one_further is_loser c.args.keys.now c.loop-key.key-index _ _ (c.loop-key.self).asserts _
    c.loop-key-test.true refl refl)
    ∙ c.loop-key.invariant

pub returns : goal.returns
unfolding is_named
returns c =
    ap (λ (t : Table AssertRow). record c.loop-key.self { asserts = t })
    (past_last is_loser c.args.keys.now c.loop-key.key-index (c.loop-key.self).asserts c.loop-key-test.false)
    ∙ c.loop-key.invariant
