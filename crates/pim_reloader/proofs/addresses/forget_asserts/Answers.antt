use Rattle.std.{proofs.Common.{◌+◌, ap, drop, fold, get_or, sym, ◌∙◌}}
use Rattle.pim_types.{specs.{declared.fact.AssertRow.AssertRow, Keys.star_key}}
use Rattle.pim_model.{specs.{State.State, Tables.{Table, drop_at}}}
use Rattle.pim_store.{specs.PimTables.PimTables}
use Rattle.pim_state.{proofs.Lent.stored}
use Rattle.pim_reloader.{proofs.Dropped.{kept_beside, none_left_dropped, one_more_dropped}}
use Rattle.pim_reloader.proofs.addresses.forget_asserts.Goals as goal

pub loop-key-preserved : goal.loop-key-preserved
loop-key-preserved c =
    let keys = c.args.keys.now in
    let i = c.loop-key.key-index in
    let changed = stored c.loop-key.world _ _ (λ (f : PimTables). record f {
      asserts = drop_at f.asserts (get_or keys i (star_key 0 0));
    }) c.store_mut.ensures.value c.drop_assert.ensures in
    record {
      asserts = ap (λ (s : State). fold drop_at s.asserts (drop (i + 1) keys)) changed
          ∙ one_more_dropped keys i (star_key 0 0) c.loop-key.world.asserts c.loop-key-test.true
          ∙ c.loop-key.invariant.asserts;
      rest = kept_beside c.args.world.now c.loop-key.world _ _ c.loop-key.invariant.rest changed;
    }

pub returns : goal.returns
returns c =
    let asserts = sym (none_left_dropped c.args.keys.now c.loop-key.key-index c.loop-key.world.asserts c.loop-key-test.false)
    ∙ c.loop-key.invariant.asserts in
    c.loop-key.invariant.rest
    ∙ ap (λ (t : Table AssertRow). let s : State = record c.args.world.now { asserts = t } in s) asserts
