use Rattle.std.proofs.Common.{◌≡◌, None, Some, refl, rules}
use Rattle.clap.specs.Words.{found_of}
use Rattle.hall_tool.proofs.Spelling.{line_tells, value_row}
use Rattle.hall_tool.proofs.words.word.Goals as goal

pub returns-in_ok-from_str-in-Some-clause-word : goal.returns-in_ok-from_str-in-Some-clause-word
returns-in_ok-from_str-in-Some-clause-word c =
    let text : Some c.in-Some.text.now ≡ Some c.new.result = search rules in
    value_row (found_of c.args.matches.now) c.args.option.name.now (Some c.in-Some.text.now)
    (λ named. named ≡ Some c.new.result) c.in-Some.ensures text

pub returns-in-None-clause-fault : goal.returns-in-None-clause-fault
returns-in-None-clause-fault c = line_tells c.missing.result _
    (value_row (found_of c.args.matches.now) c.args.option.name.now None (λ named. named ≡ None) c.in-None.ensures
    refl)
