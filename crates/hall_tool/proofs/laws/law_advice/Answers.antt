use Rattle.hall_tool.proofs.Advised.{are_faults_told}
use Rattle.hall_tool.proofs.laws.law_advice.Goals as goal

pub returns : goal.returns
returns c = are_faults_told
