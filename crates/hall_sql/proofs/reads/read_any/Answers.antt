use Rattle.std.proofs.lemmas.Result.{IfOk-weaker}
use Rattle.hall_sql.proofs.reads.read_any.Goals as goal

pub returns-clause-read : goal.returns-clause-read
returns-clause-read g c clean =
    IfOk-weaker c.look.result _ _ (λ records it. (
      it.serves,
      record { served = it.served; rows = it.rows; reads = it.tells; shown = it.shown },
    )) (c.look.ensures.told clean)
