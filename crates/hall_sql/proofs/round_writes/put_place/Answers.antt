use Rattle.std.proofs.lemmas.Result.{on_ok_weaker}
use Rattle.sqlite.specs.Held.{state}
use Rattle.hall_sql.specs.declared.round_writes.TheConstants.{ADD_PLACE}
use Rattle.hall_sql.specs.RoundColumns.{place_params}
use Rattle.hall_sql.specs.RoundPuts.{PutsPlace}
use Rattle.hall_sql.proofs.InsideLemmas.{did_run}
use Rattle.hall_sql.proofs.Written.{add_place_written}
use Rattle.hall_sql.proofs.PlaceWrites.{place_added}
use Rattle.hall_sql.proofs.round_writes.put_place.Goals as goal

pub write_in-requires : goal.write_in-requires
write_in-requires g c = record {
  written = rw c.place_columns.ensures.bound
      (add_place_written c.args.id.now c.args.number c.args.entry.now);
}

pub returns-clause-done : goal.returns-clause-done
returns-clause-done g c clean inside =
    on_ok_weaker c.write_in.result (λ it.
    did_run (PutsPlace c.args.id.now c.args.number c.args.entry.now) ADD_PLACE.now
    (place_params c.args.id.now c.args.number c.args.entry.now) (state g.S.Store c.args.tx.now.conn.now)
    (state g.S.Store c.write_in.new.tx.conn.now) it
    (λ count ran held. place_added c.args.id.now _ _ count held c.args.number c.args.entry.now
    c.place_columns.ensures.in_range c.requires.numbered c.entry_in_range.ensures ran))
    ((rw c.place_columns.ensures.bound at c.write_in.ensures.ran) clean inside)
