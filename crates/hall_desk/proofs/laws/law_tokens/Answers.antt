use Rattle.hall_desk.proofs.Tokens.{tokens_act_once}
use Rattle.hall_desk.proofs.ProtestTokens.{protest_tokens_act_once}
use Rattle.hall_desk.proofs.Rulings.{rulings_act_once}
use Rattle.hall_desk.proofs.SaneTokens.{sane_tokens_act_once, sane_protest_tokens_act_once}
use Rattle.hall_desk.proofs.laws.law_tokens.Goals as goal

pub returns-clause-answers : goal.returns-clause-answers
returns-clause-answers c = tokens_act_once

pub returns-clause-protests : goal.returns-clause-protests
returns-clause-protests c = protest_tokens_act_once

pub returns-clause-rulings : goal.returns-clause-rulings
returns-clause-rulings c = rulings_act_once

pub returns-clause-sane_answers : goal.returns-clause-sane_answers
returns-clause-sane_answers c = sane_tokens_act_once

pub returns-clause-sane_protests : goal.returns-clause-sane_protests
returns-clause-sane_protests c = sane_protest_tokens_act_once
