use Rattle.std.{proofs.Common.{◌≡◌, ◌+◌, ◌*◌, ◌-◌, Err, sym, ◌∙◌, arith, rules}}
use Rattle.pim_bootstrap.{specs.Advertisements.all_advertised_test, proofs.Advertised.{advertised_none, advertised_right, advertised_wrong}}
use Rattle.pim_bootstrap.proofs.advertisement.check_all_advertised.Goals as goal

pub returns-in_err-check_advertised-clause-value : goal.returns-in_err-check_advertised-clause-value
returns-in_err-check_advertised-clause-value c =
    let l = c.loop-index in
    let e = c.in_err-check_advertised.field-0.0 in
    let wrong = advertised_wrong c.args.bytes.now (c.args.place + 8 * l.index) (c.args.count - l.index) e (omega arith) (sym c.in_err-check_advertised.ensures.value) in
    let is : Err e ≡ all_advertised_test c.args.bytes.now c.args.place c.args.count = sym wrong ∙ l.invariant.tests in
    search (rules, is)

pub loop-index-preserved : goal.loop-index-preserved
loop-index-preserved c =
    let l = c.loop-index in
    record {
      within = omega (arith, c.in_ok-check_advertised.ensures.there);
      tests = advertised_right c.args.bytes.now (c.args.place + 8 * l.index) (c.args.count - l.index) _ _ (omega arith) (sym c.in_ok-check_advertised.ensures.value) (omega arith) (omega arith) ∙ l.invariant.tests;
    }

pub returns-clause-value : goal.returns-clause-value
returns-clause-value c =
    let l = c.loop-index in
    let none : c.args.count - l.index ≡ 0 = omega arith in
    sym (advertised_none c.args.bytes.now (c.args.place + 8 * l.index)) ∙ rw none at l.invariant.tests
