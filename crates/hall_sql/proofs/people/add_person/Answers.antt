use Rattle.std.proofs.lemmas.Result.{on_ok_weaker}
use Rattle.sqlite.specs.Held.{state}
use Rattle.hall_sql.specs.declared.people.TheConstants.{ADD_PERSON}
use Rattle.hall_sql.specs.Columns.{person_params}
use Rattle.hall_sql.specs.Inside.{AddsPerson}
use Rattle.hall_sql.proofs.InsideLemmas.{did_run}
use Rattle.hall_sql.proofs.Written.{add_person_written}
use Rattle.hall_sql.proofs.PeopleWrites.{person_added}
use Rattle.hall_sql.proofs.people.add_person.Goals as goal

pub write_in-requires : goal.write_in-requires
write_in-requires g c = record { written = rw c.columns.ensures (add_person_written c.args.person.now) }

pub returns-clause-done : goal.returns-clause-done
returns-clause-done g c clean inside =
    on_ok_weaker c.write_in.result (λ it.
    did_run (AddsPerson c.args.person.now) ADD_PERSON.now (person_params c.args.person.now)
    (state g.S.Store c.args.tx.now.conn.now) (state g.S.Store c.write_in.new.tx.conn.now) it
    (person_added c.args.person.now c.in_range.ensures _ _))
    ((rw c.columns.ensures at c.write_in.ensures.ran) clean inside)
