use Rattle.std.{proofs.Common.{◌≡◌, ◌/◌, ◌%◌, arith}}
use Rattle.igmp_wire.{proofs.CodeLaws.{code_value-low, code_value-shifted, code_value-rises, code_value-within}}
use Rattle.igmp_wire.proofs.code.code_value.Goals as goal

pub returns-then-code-lt128 : goal.returns-then-code-lt128
returns-then-code-lt128 c =
    let value = code_value-low c.args.code c.if-code-lt128.true in
    record {
      value = omega arith;
      rises = λ lower h. let below = code_value-rises c.args.code lower h (omega arith) in omega arith;
      within = let most = code_value-within c.args.code (omega arith) in omega arith;
    }

pub returns : goal.returns
returns c =
    let value = code_value-shifted c.args.code (omega arith) (omega arith) in
    let mantissa : c.from-mantissa.result ≡ c.args.code % 16 = omega arith in
    let exponent : c.from-exponent.result ≡ c.args.code / 16 % 8 = omega arith in
    record {
      value = rw (mantissa, exponent) value;
      rises = λ lower h. let below = code_value-rises c.args.code lower h (omega arith) in rw (mantissa, exponent, value) below;
      within = let most = code_value-within c.args.code (omega arith) in rw (mantissa, exponent, value) most;
    }
