use Rattle.std.{proofs.Common.{◌+◌, Option, ap, drop, get_or, sym, ◌∙◌}}
use Rattle.pim_types.{specs.{declared.fact.QuerierRow.QuerierRow, Keys.star_key}}
use Rattle.pim_model.{specs.{State.State, Tables.{Table, change_row}}}
use Rattle.law_settled.{specs.Rows.all_changed, proofs.ChosenRows.{none_left_changed, one_more_changed}}
use Rattle.pim_reloader.{specs.Asking.asking, proofs.Asked.{kept, key_at, same_asking}}
use Rattle.pim_reloader.proofs.queriers.put_each_under.Goals as goal

pub put_under-requires : goal.put_under-requires
put_under-requires c = key_at c.args.keys.now c.loop-key.key-index (star_key 0 0) c.requires c.loop-key-test.true

pub loop-key-preserved : goal.loop-key-preserved
loop-key-preserved c =
    let a = c.args.world.now in
    let s = c.loop-key.world in
    let keys = c.args.keys.now in
    let i = c.loop-key.key-index in
    let changed = c.in_ok-put_under.ensures
    ∙ ap (λ (f : QuerierRow → Option QuerierRow). let x : State = record s {
      queriers = change_row f (get_or keys i (star_key 0 0)) s.queriers;
    } in x) (same_asking a s c.loop-key.invariant.rest) in
    record {
      queriers = ap (λ (x : State). all_changed (asking a) x.queriers (drop (i + 1) keys)) changed
          ∙ one_more_changed (asking a) keys i (star_key 0 0) s.queriers c.loop-key-test.true
          ∙ c.loop-key.invariant.queriers;
      rest = kept a s _ _ c.loop-key.invariant.rest changed;
    }

pub returns : goal.returns
returns c =
    let queriers = sym (none_left_changed (asking c.args.world.now) c.args.keys.now c.loop-key.key-index
    c.loop-key.world.queriers c.loop-key-test.false)
    ∙ c.loop-key.invariant.queriers in
    c.loop-key.invariant.rest
    ∙ ap (λ (t : Table QuerierRow). let s : State = record c.args.world.now { queriers = t } in s) queriers
