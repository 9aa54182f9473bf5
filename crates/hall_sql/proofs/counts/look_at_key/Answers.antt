use Rattle.hall_sql.proofs.CountLemmas.{key_read}
use Rattle.hall_sql.proofs.counts.look_at_key.Goals as goal

pub returns-clause-key : goal.returns-clause-key
returns-clause-key c =
    key_read c.args.row.now c.in_ok-_entrant.ensures.text c.in_ok-_round.ensures.text
    (c.in_ok-_number._number, c.in_ok-_number.ensures.number) c.in_ok-_token.ensures.text
