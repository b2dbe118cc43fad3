use Rattle.std.{proofs.{Common.{◌+◌, None, ap, drop, fold, sym, ◌∙◌}, lemmas.List.drop_more}}
use Rattle.pim_types.{specs.Keys.star_key}
use Rattle.pim_model.{specs.State.State}
use Rattle.pim_state.{specs.Lending.with_store}
use Rattle.pim_downstream.{specs.{Naming.row_set, declared.effect.Change.Change}}
use Rattle.pim_downstream.proofs.message.set_rows.Goals as goal

pub loop-change-preserved : goal.loop-change-preserved
unfolding row_set
loop-change-preserved c =
    let l = c.loop-change in
    let i = l.change-index in
    let changes = c.args.changes.now in
    let none : Change = record { key = star_key 0 0; row = None } in
    let rest = drop (i + 1) changes in
    let moved = ap (with_store l.world) (rw c.store_mut.ensures.value at c.in_ok-set_downstream.ensures) in
    ap (λ (s : State). fold row_set s rest) moved
    ∙ sym (ap (fold row_set l.world) (drop_more changes i none c.loop-change-test.true)) ∙ l.invariant
