use Rattle.hall_sheet.proofs.Forms.{civil_digits}
use Rattle.std.proofs.Common.{rules, tests}
use Rattle.hall_sheet.proofs.start.civil_time.Goals as goal

pub number-requires-clause-digits : goal.number-requires-clause-digits
number-requires-clause-digits c = (civil_digits c.args.text.now (search (tests, rules))).year

pub number-requires-2-clause-digits : goal.number-requires-2-clause-digits
number-requires-2-clause-digits c = (civil_digits c.args.text.now (search (tests, rules))).month

pub number-requires-3-clause-digits : goal.number-requires-3-clause-digits
number-requires-3-clause-digits c = (civil_digits c.args.text.now (search (tests, rules))).day

pub number-requires-4-clause-digits : goal.number-requires-4-clause-digits
number-requires-4-clause-digits c = (civil_digits c.args.text.now (search (tests, rules))).hours

pub number-requires-5-clause-digits : goal.number-requires-5-clause-digits
number-requires-5-clause-digits c = (civil_digits c.args.text.now (search (tests, rules))).minutes

pub number-requires-6-clause-digits : goal.number-requires-6-clause-digits
number-requires-6-clause-digits c = (civil_digits c.args.text.now (search (tests, rules))).seconds
