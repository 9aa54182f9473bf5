use Rattle.sqlite.specs.Held.{state}
use Rattle.hall_sql.specs.Rows.{round_in}
use Rattle.hall_sql.specs.declared.rounds.TheConstants.{ALL_ROUNDS}
use Rattle.hall_sql.proofs.ReadLemmas.{reads_table}
use Rattle.hall_sql.proofs.RoundLemmas.{all_rounds_listed}
use Rattle.hall_sql.proofs.RoundTexts.{all_rounds_are}
use Rattle.hall_sql.proofs.Versions.{over_any}
use Rattle.hall_sql.proofs.Queries.{asked_in}
use Rattle.hall_sql.proofs.rounds.rounds.Goals as goal

pub read_any-requires : goal.read_any-requires
read_any-requires g c =
    record { asks = over_any c.requires.hall (λ schema version. asked_in (all_rounds_are schema version)) }

pub returns : goal.returns
returns g c =
    reads_table round_in ALL_ROUNDS.now c.read_any.result _ c.requires.hall c.read_any.ensures.rested
    (λ out. out.items) c.read_any.ensures.read c.read_any.ensures.cause
    (λ out it opened schema version has keyed. all_rounds_listed schema version _ (state g.S.Store c.read_any.new.conn)
    has keyed (c.schema-schema.ensures.live opened).0 it.rows out.items it.reads it.shown)
