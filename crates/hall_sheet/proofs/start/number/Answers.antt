use Rattle.std.proofs.Common.{◌<◌, get_or, arith}
use Rattle.std.specs.Char.{digit_value}
use Rattle.std.proofs.lemmas.Int.Digits.{digits_more}
use Rattle.hall_sheet.proofs.Digits.{value_small, value_more, digit_at}
use Rattle.hall_sheet.proofs.start.number.Goals as goal

pub overflow_mul-value : goal.overflow_mul-value
overflow_mul-value c =
    let (value, digits) = c.loop-digit.invariant in
    omega (
      arith,
      value,
      value_small c.args.digits.now c.loop-digit.digit-index digits c.loop-digit-test.true
          c.requires.few,
    )

pub overflow_add-value : goal.overflow_add-value
overflow_add-value c =
    let (value, digits) = c.loop-digit.invariant in
    let small = value_small c.args.digits.now c.loop-digit.digit-index digits c.loop-digit-test.true c.requires.few in
    let digit = digit_at c.args.digits.now c.loop-digit.digit-index c.requires.digits c.loop-digit-test.true in
    omega (arith, value, small, digit.most, c.from.ensures)

pub loop-digit-preserved : goal.loop-digit-preserved
loop-digit-preserved c =
    let (value, digits) = c.loop-digit.invariant in
    let i = c.loop-digit.digit-index in
    let digit = digit_at c.args.digits.now i c.requires.digits c.loop-digit-test.true in
    let small : digit_value (get_or c.args.digits.now i 0) < 10 = omega (arith, digit.value, digit.most) in (
      rw c.from.ensures (value_more c.args.digits.now i c.loop-digit.value c.loop-digit-test.true value digit),
      digits_more 10 c.args.digits.now i c.loop-digit-test.true digits small,
    )
