use Rattle.std.proofs.Common.{◌≡◌, ◌∙◌, sym, true, Err}
use Rattle.hall_http.specs.Words.{is_decimal}
use Rattle.hall_http.proofs.Texts.{digits_utf8, decimal_digits, parsed, reads_none}
use Rattle.hall_http.proofs.words.read_decimal.Goals as goal

pub returns-in-Err-parse : goal.returns-in-Err-parse
returns-in-Err-parse c =
    let decimal : is_decimal c.args.text.now ≡ true = sym c.is_decimal.ensures ∙ c.if-not-is_decimal.false in
    let text = rw c.in-Ok.is at c.from_utf8.ensures.cases in
    let bad = rw (text.0, c.in-Err-parse.is) at c.parse.ensures.value.0 in
    sym (reads_none c.args.text.now decimal (parsed c.args.text.now (Err c.in-Err-parse.field-0) bad decimal))

pub returns-in-Err : goal.returns-in-Err
returns-in-Err c =
    let decimal : is_decimal c.args.text.now ≡ true = sym c.is_decimal.ensures ∙ c.if-not-is_decimal.false in
    let bad = rw c.in-Err.is at c.from_utf8.ensures.cases in
    absurd (bad.0 (digits_utf8 c.args.text.now (decimal_digits c.args.text.now decimal)))
