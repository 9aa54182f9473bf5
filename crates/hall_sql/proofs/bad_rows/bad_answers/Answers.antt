use Rattle.sqlite.specs.Held.{state}
use Rattle.hall_sql.specs.declared.tables.HallTable.TheVariants.{Answers}
use Rattle.hall_sql.proofs.BadRowLemmas.{finds, may_be_asked}
use Rattle.hall_sql.proofs.bad_rows.bad_answers.Goals as goal

pub bad_in-requires : goal.bad_in-requires
bad_in-requires g c = record { asks = may_be_asked Answers (state g.S.Store c.args.conn.now) c.requires.has }

pub returns : goal.returns
returns g c =
    let it = c.bad_in.ensures in
    finds Answers (state g.S.Store c.args.conn.now) (state g.S.Store c.bad_in.new.conn) c.bad_in.result c.requires.has
    it.rested it.bad it.cause
