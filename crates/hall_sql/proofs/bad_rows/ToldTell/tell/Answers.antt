use Rattle.std.proofs.Common.{◌≡◌, arith, to_z, of_z, w64}
use Rattle.std.proofs.lemmas.Int.{ints}
use Rattle.hall_sql.proofs.LookedLemmas.{bad_more}
use Rattle.hall_sql.proofs.bad_rows.ToldTell.tell.Goals as goal

pub returns-clause-told : goal.returns-clause-told
returns-clause-told g c rows so =
    let id : to_z w64 (of_z w64 c.in_ok-id.id) ≡ c.in_ok-id.id = omega (arith, ints) in
    rw (c.in_ok-add_bad.ensures.added, id) (bad_more g.T.Record.read g.row.AT rows c.args.row.now _
    c.args.self.now.is_full _ c.in_ok-is_record.is_record _ so c.in_ok-id.ensures.id c.in_ok-is_record.ensures.is
    (rw id at c.is_full_with-self.ensures))
