use Rattle.std.proofs.Common.{◌<◌, length, arith}
use Rattle.std.proofs.lemmas.Bool.Decides.{nat_tests}
use Rattle.hall_policy.proofs.Rounds.{entry_beyond, entry_none}
use Rattle.hall_policy.proofs.rule_checks.is_beyond.Goals as goal

pub returns : goal.returns
returns c = (
  λ t. entry_beyond c.args.entries.now c.args.number (grind (arith, nat_tests, t, c.get.ensures.value)),
  λ e. let short : length c.args.entries.now < c.args.number = entry_none c.args.entries.now c.args.number
      (omega (arith, c.get.ensures.value, c.get.ensures.least)) e in
      grind (arith, nat_tests, short, c.get.ensures.value),
)
