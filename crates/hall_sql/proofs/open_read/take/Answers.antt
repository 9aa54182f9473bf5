use Rattle.std.proofs.Common.{inl, inr, rules}
use Rattle.sqlite.specs.Held.{state}
use Rattle.hall_sql.proofs.OpenedRead.{found_hall, makes_none}
use Rattle.hall_sql.proofs.open_read.take.Goals as goal

pub returns-in-Ok-clause-taken : goal.returns-in-Ok-clause-taken
returns-in-Ok-clause-taken g c =
    found_hall (state g.S.Store c.args.conn) (state g.S.Store c.in-Ok.store) (search rules) c.in-Ok.ensures.adopted

pub returns-in-Err-clause-stops : goal.returns-in-Err-clause-stops
returns-in-Err-clause-stops g c =
    makes_none (state g.S.Store c.args.conn) (state g.S.Store c.in-Err.declined.conn) (search rules)
    c.in-Err.ensures.stops

pub returns-in-Err-clause-cause : goal.returns-in-Err-clause-cause
returns-in-Err-clause-cause g c clean failed = inr (inl (search rules, c.in-Err.ensures.cause clean failed))
