use Rattle.hall_tool.proofs.Spelled.{are_spelled, one_command}
use Rattle.hall_tool.proofs.laws.law_words.Goals as goal

pub returns-clause-spelled : goal.returns-clause-spelled
returns-clause-spelled c = are_spelled

pub returns-clause-one : goal.returns-clause-one
returns-clause-one c = one_command
