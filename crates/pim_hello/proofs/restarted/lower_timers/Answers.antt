use Rattle.std.{proofs.Common.{◌+◌, ap, drop, sym, ◌∙◌}}
use Rattle.pim_types.{specs.{declared.fact.JoinTimerRow.JoinTimerRow, Keys.star_key}}
use Rattle.pim_model.{specs.{State.State, Tables.Table}}
use Rattle.law_settled.{specs.Rows.all_changed, proofs.ChosenRows.{none_left_changed, one_more_changed}}
use Rattle.pim_store.{specs.PimTables.lowered_join_timer}
use Rattle.pim_state.{specs.Lending.with_store}
use Rattle.pim_hello.{proofs.Lowering.kept}
use Rattle.pim_hello.proofs.restarted.lower_timers.Goals as goal

pub loop-key-preserved : goal.loop-key-preserved
loop-key-preserved c =
    let end = c.args.end in
    let keys = c.args.keys.now in
    let i = c.loop-key.key-index in
    let lowered_in =
    ap (with_store c.loop-key.world) (rw c.store_mut.ensures.value at c.in_ok-lower_join_timer.ensures) in
    let timers = ap (λ (s : State). s.join_timers) lowered_in in record {
      timers =
          ap (λ (t : Table JoinTimerRow). all_changed (lowered_join_timer end) t (drop (i + 1) keys)) timers
          ∙ one_more_changed (lowered_join_timer end) keys i (star_key 0 0) c.loop-key.world.join_timers c.loop-key-test.true
          ∙ c.loop-key.invariant.timers;
      rest = kept c.args.world.now c.loop-key.world _ _ c.loop-key.invariant.rest lowered_in;
    }

pub returns : goal.returns
returns c =
    let timers = sym (none_left_changed (lowered_join_timer c.args.end) c.args.keys.now c.loop-key.key-index c.loop-key.world.join_timers
    c.loop-key-test.false)
    ∙ c.loop-key.invariant.timers in
    c.loop-key.invariant.rest
    ∙ ap (λ (t : Table JoinTimerRow). let s : State = record c.args.world.now { join_timers = t } in s) timers
