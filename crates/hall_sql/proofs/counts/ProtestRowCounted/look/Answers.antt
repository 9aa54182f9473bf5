use Rattle.hall_sql.proofs.CountLemmas.{protest_read}
use Rattle.hall_sql.proofs.counts.ProtestRowCounted.look.Goals as goal

pub returns-clause-one : goal.returns-clause-one
returns-clause-one c =
    protest_read c.args.row.now c.in_ok-_entrant.ensures.text c.in_ok-_round.ensures.text c.in_ok-_token.ensures.text
    (c.in_ok-_number._number, c.in_ok-_number.ensures.number) c.in_ok-_text.ensures.text
    (c.in_ok-_ruling._ruling, c.in_ok-_ruling.ensures.ruling)
