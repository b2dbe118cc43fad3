use Rattle.std.{proofs.Common.{◌≡◌, ◌+◌, Ok, sym, ◌∙◌, arith, rules}}
use Rattle.pim_wire.{specs.Hellos.option_test, proofs.Options.{after_option, tests_step, value_step, hello_wrong, hello_right}}
use Rattle.pim_wire.proofs.hello.read_hello.Goals as goal

pub returns-in_err-check_option : goal.returns-in_err-check_option
returns-in_err-check_option c =
    let wrong = hello_wrong c.args.bytes.now c.loop-place.place c.in_err-check_option.field-0.0 (omega arith) c.loop-place.invariant.tests (sym c.in_err-check_option.ensures.value) in
    search (rules, wrong)

pub loop-place-preserved : goal.loop-place-preserved
loop-place-preserved c =
    let b = c.args.bytes.now in
    let p = c.loop-place.place in
    let next : p + (4 + c.option_length.result) ≡ after_option b p = omega arith in
    let right : option_test b p ≡ Ok tt = sym c.in_ok-check_option.ensures.value in
    record {
      within = omega (arith, c.in_ok-check_option.ensures.there);
      tests = tests_step b p _ (omega arith) right next ∙ c.loop-place.invariant.tests;
      value = rw c.put_option.ensures (value_step b p _ c.loop-place.hello (omega arith) next ∙ c.loop-place.invariant.value);
    }

pub returns : goal.returns
returns c = hello_right c.args.bytes.now c.loop-place.place c.loop-place.hello (omega arith) c.loop-place.invariant.tests c.loop-place.invariant.value
