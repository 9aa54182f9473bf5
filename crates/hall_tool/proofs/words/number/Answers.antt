use Rattle.std.proofs.Common.{ℕ, List, Option, None, Some}
use Rattle.clap.specs.Words.{first_of, found_of, rows_of}
use Rattle.hall_tool.specs.Words.{IsNoNumber, IsNoNumberIfAny, IsNumber}
use Rattle.hall_tool.specs.declared.words.Numbers.{Numbers}
use Rattle.hall_tool.proofs.Spelling.{line_passed}
use Rattle.hall_tool.proofs.words.number.Goals as goal

-- where none of the numbers that may be named is, there is none
none_named : (numbers : Numbers) (text : Option (List ℕ)) → IsNoNumberIfAny numbers text
    → IsNoNumber (IsNumber numbers text)
none_named numbers (Some text) none number is = none (Some number) is
none_named numbers None none number is = none None tt

pub returns-in_err-number_if_any-clause-fault : goal.returns-in_err-number_if_any-clause-fault
returns-in_err-number_if_any-clause-fault c =
    line_passed c.from_residual.result c.in_err-number_if_any.field-0.0 _ _ c.from_residual.ensures.1
    (none_named c.args.numbers (first_of c.args.option.name.now (rows_of (found_of c.args.matches.now))))
    c.in_err-number_if_any.ensures.fault
