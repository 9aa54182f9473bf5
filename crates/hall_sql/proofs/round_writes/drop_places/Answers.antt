use Rattle.std.proofs.Common.{[], ◌∷◌}
use Rattle.std.proofs.lemmas.Result.{on_ok_weaker}
use Rattle.sqlite.specs.Held.{state}
use Rattle.hall_sql.specs.declared.round_writes.TheConstants.{DROP_PLACES}
use Rattle.sqlite.specs.declared.types.Value.TheVariants.{Text}
use Rattle.hall_sql.specs.RoundPuts.{DropsPlaces}
use Rattle.hall_sql.proofs.InsideLemmas.{did_run}
use Rattle.hall_sql.proofs.Written.{drop_places_written}
use Rattle.hall_sql.proofs.PlaceWrites.{places_dropped}
use Rattle.hall_sql.proofs.round_writes.drop_places.Goals as goal

pub write_in-requires : goal.write_in-requires
write_in-requires g c = record {
  written = rw (c.params-to_sql.ensures, c.as_str.ensures.text)
      (drop_places_written c.args.id.now);
}

pub returns-clause-done : goal.returns-clause-done
returns-clause-done g c clean inside =
    on_ok_weaker c.write_in.result (λ it.
    did_run (DropsPlaces c.args.id.now) DROP_PLACES.now (Text c.args.id.now ∷ [])
    (state g.S.Store c.args.tx.now.conn.now) (state g.S.Store c.write_in.new.tx.conn.now) it
    (λ count ran held. places_dropped c.args.id.now _ _ count held ran))
    ((rw (c.params-to_sql.ensures, c.as_str.ensures.text) at c.write_in.ensures.ran) clean inside)
