use Rattle.std.proofs.Common.{◌≡◌, ◌<◌, get_or, arith, ◌∙◌, true, sym}
use Rattle.std.specs.Char.{digit_value, is_ascii_digit}
use Rattle.std.proofs.lemmas.Int.Digits.{digits_more}
use Rattle.std.proofs.lemmas.Grind.{common_steps}
use Rattle.hall_http.proofs.Digits.{digit_is, value_small, value_more}
use Rattle.hall_http.proofs.head.length_text.Goals as goal

pub overflow_mul-value : goal.overflow_mul-value
overflow_mul-value c =
    let (value, digits, all) = c.loop-b.invariant in
    omega (arith, value, value_small c.args.text.now c.loop-b.b-index digits c.loop-b-test.true c.if-text-gt5.false)

pub overflow_add-value : goal.overflow_add-value
overflow_add-value c =
    let (value, digits, all) = c.loop-b.invariant in
    omega (
      arith,
      value,
      c.type_inv.text c.loop-b.b-index,
      value_small c.args.text.now c.loop-b.b-index digits
          c.loop-b-test.true c.if-text-gt5.false,
    )

pub loop-b-preserved : goal.loop-b-preserved
loop-b-preserved c =
    let (value, digits, all) = c.loop-b.invariant in
    let i = c.loop-b.b-index in
    let test : is_ascii_digit (get_or c.args.text.now i 0) ≡ true = sym c.is_ascii_digit.ensures.value
    ∙ c.if-not-is_ascii_digit.false in
    let (low, high, is) = digit_is (get_or c.args.text.now i 0) test in
    let small : digit_value (get_or c.args.text.now i 0) < 10 = omega arith in (
      value_more c.args.text.now i c.loop-b.value c.loop-b-test.true value is,
      digits_more 10 c.args.text.now i
          c.loop-b-test.true digits small,
      grind (arith, common_steps, test, all),
    )
