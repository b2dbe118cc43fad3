use Rattle.std.{proofs.Common.{◌≡◌, ◌-◌, Err, sym, ◌∙◌, arith, rules}}
use Rattle.pim_wire.{specs.JoinPrunes.groups_test, proofs.Walks.{groups_none, groups_right, groups_wrong}}
use Rattle.pim_wire.proofs.join_prune.check_groups.Goals as goal

pub returns-in_err-check_one_group : goal.returns-in_err-check_one_group
returns-in_err-check_one_group c =
    let l = c.groups in
    let e = c.in_err-check_one_group.field-0.0 in
    let wrong = groups_wrong c.args.bytes.now l.place (c.args.count - l.counter) e (omega arith) (sym c.in_err-check_one_group.ensures.value) in
    let is : Err e ≡ groups_test c.args.bytes.now c.args.first c.args.count = sym wrong ∙ l.invariant.tests in
    search (rules, is)

pub groups-preserved : goal.groups-preserved
groups-preserved c =
    let l = c.groups in
    record {
      within = omega (arith, c.in_ok-check_one_group.ensures.there, c.after_group-place.ensures);
      tests = groups_right c.args.bytes.now l.place (c.args.count - l.counter) _ _ (omega arith) (sym c.in_ok-check_one_group.ensures.value) c.after_group-place.ensures (omega arith) ∙ l.invariant.tests;
    }

pub returns : goal.returns
returns c =
    let l = c.groups in
    let none : c.args.count - l.counter ≡ 0 = omega arith in
    sym (groups_none c.args.bytes.now l.place) ∙ rw none at l.invariant.tests
