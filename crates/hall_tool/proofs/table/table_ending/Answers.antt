use Rattle.std.proofs.Common.{inr}
use Rattle.std.proofs.lemmas.Result.{IfOk-weaker}
use Rattle.hall_tool.proofs.table.table_ending.Goals as goal

pub returns-in-Some-clause-text : goal.returns-in-Some-clause-text
returns-in-Some-clause-text g c =
    let some = rw c.in-Some.is at c.in_ok-id.ensures.some in
    IfOk-weaker c.table_of.result _ _ (λ ending told. inr (some.1, rw some.0 at told)) c.table_of.ensures.told
