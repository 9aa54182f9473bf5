use Rattle.std.proofs.Common.{inr}
use Rattle.hall_http.proofs.Refusals.{unavailable_reply}
use Rattle.hall_http.proofs.answer.answer_fault.Goals as goal

pub returns-in-Err-clause-told : goal.returns-in-Err-clause-told
returns-in-Err-clause-told c = inr unavailable_reply
