use Rattle.std.{proofs.{Common.{◌+◌, ap, drop, fold, sym, ◌∙◌}, lemmas.List.drop_more}}
use Rattle.pim_types.{specs.Keys.star_key}
use Rattle.pim_model.{specs.{State.State, Tables.set_row}}
use Rattle.pim_state.{specs.Lending.with_store}
use Rattle.pim_plan.{specs.Rejoining.row_put}
use Rattle.pim_event.proofs.again.put_rows.Goals as goal

pub loop-key-preserved : goal.loop-key-preserved
unfolding row_put set_row
loop-key-preserved c =
    let l = c.loop-key in
    let i = l.key-index in
    let keys = c.args.keys.now in
    let put = row_put c.args.row in
    let rest = drop (i + 1) keys in
    let moved = ap (with_store l.world) (rw c.store_mut.ensures.value at c.in_ok-set_downstream.ensures) in
    ap (λ (s : State). fold put s rest) moved
    ∙ sym (ap (fold put l.world) (drop_more keys i (star_key 0 0) c.loop-key-test.true)) ∙ l.invariant
