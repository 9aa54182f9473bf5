use Rattle.std.proofs.Common.{ℕ, List, None, Some}
use Rattle.clap.specs.Words.{found_of}
use Rattle.hall_tool.specs.Words.{IsNoNumber, IsNoNumberIfAny, IsNumberIfAny, IsNumberWithin}
use Rattle.hall_tool.specs.declared.words.Numbers.{Numbers}
use Rattle.hall_tool.proofs.Spelling.{line_tells, value_row}
use Rattle.hall_tool.proofs.words.number_if_any.Goals as goal

-- a text that is none of the numbers is no number that may be named
none_named : (numbers : Numbers) (text : List ℕ) → IsNoNumber (IsNumberWithin numbers.least numbers.most text)
    → IsNoNumberIfAny numbers (Some text)
none_named numbers text none (Some number) is = none number is
none_named numbers text none None is = is

pub returns-in-Some-number_within-clause-number : goal.returns-in-Some-number_within-clause-number
returns-in-Some-number_within-clause-number c =
    value_row (found_of c.args.matches.now) c.args.option.name.now (Some c.in-Some.text.now)
    (λ named. IsNumberIfAny c.args.numbers named (Some c.in-Some-number_within.number)) c.in-Some.ensures
    c.in-Some-number_within.ensures

pub returns-in-None-number_within-clause-fault : goal.returns-in-None-number_within-clause-fault
returns-in-None-number_within-clause-fault c = line_tells c.no_number.result _
    (value_row (found_of c.args.matches.now) c.args.option.name.now (Some c.in-Some.text.now)
    (IsNoNumberIfAny c.args.numbers) c.in-Some.ensures
    (none_named c.args.numbers c.in-Some.text.now c.in-None-number_within.ensures))

pub returns-in-None-clause-number : goal.returns-in-None-clause-number
returns-in-None-clause-number c =
    value_row (found_of c.args.matches.now) c.args.option.name.now None
    (λ named. IsNumberIfAny c.args.numbers named None) c.in-None.ensures tt
