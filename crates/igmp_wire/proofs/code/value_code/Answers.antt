use Rattle.std.{proofs.Common.{◌-◌, arith}, specs.Int.Count.count_leading_zeros}
use Rattle.igmp_wire.{proofs.CodeLaws.{IsScaled, greatest_low, greatest_high, scaled, greatest_scaled}}
use Rattle.igmp_wire.proofs.code.value_code.Goals as goal

pub returns-then-value-lt128 : goal.returns-then-value-lt128
returns-then-value-lt128 c =
    let g = greatest_low c.args.value c.if-value-lt128.true in
    record { code = g.is_code; within = g.within; greatest = g.greatest }

pub returns-then-value-ge-GREATEST_VALUE : goal.returns-then-value-ge-GREATEST_VALUE
returns-then-value-ge-GREATEST_VALUE c =
    let g = greatest_high c.args.value c.if-value-ge-GREATEST_VALUE.true in
    record { code = g.is_code; within = g.within; greatest = g.greatest }

pub overflow_sub-exponent : goal.overflow_sub-exponent
overflow_sub-exponent c = (scaled c.args.value c.if-value-lt128.false c.if-value-ge-GREATEST_VALUE.false).0

pub overflow_sub-mantissa : goal.overflow_sub-mantissa
overflow_sub-mantissa c =
    (scaled c.args.value c.if-value-lt128.false c.if-value-ge-GREATEST_VALUE.false).1.mantissa_low

pub overflow_cast-result-2 : goal.overflow_cast-result-2
overflow_cast-result-2 c =
    let s : IsScaled c.args.value (24 - count_leading_zeros 32 c.args.value) = (scaled c.args.value c.if-value-lt128.false c.if-value-ge-GREATEST_VALUE.false).1 in
    omega arith

pub returns : goal.returns
returns c =
    let s = scaled c.args.value c.if-value-lt128.false c.if-value-ge-GREATEST_VALUE.false in
    let g = greatest_scaled c.args.value (24 - count_leading_zeros 32 c.args.value) s.1 in
    record { code = g.is_code; within = g.within; greatest = g.greatest }
