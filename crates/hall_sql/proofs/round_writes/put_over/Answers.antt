use Rattle.std.proofs.lemmas.Result.{on_ok_weaker}
use Rattle.hall_sql.proofs.RoundWrites.{head_replaced}
use Rattle.hall_sql.proofs.Written.{replace_head_written}
use Rattle.hall_sql.proofs.round_writes.put_over.Goals as goal

pub write_in-requires : goal.write_in-requires
write_in-requires g c = record { written = rw c.columns.ensures (replace_head_written c.args.round.now) }

pub returns-clause-done : goal.returns-clause-done
returns-clause-done g c clean inside =
    on_ok_weaker c.write_in.result (λ it. record {
      mode = it.mode;
      sound = it.sound;
      puts = λ held. head_replaced c.args.round.now c.in_range.ensures _ _ it.count held it.ran;
    }) ((rw c.columns.ensures at c.write_in.ensures.ran) clean inside)
