use Rattle.std.proofs.Common.{inl, rules, refl}
use Rattle.sqlite.specs.Held.{state}
use Rattle.hall_sql.proofs.StoreLemmas.{rested_stayed}
use Rattle.hall_sql.proofs.TransactionLemmas.{rests_itself}
use Rattle.hall_tool.proofs.Checking.{store_failed}
use Rattle.hall_tool.proofs.migrate.migrate_run.Goals as goal

pub returns-in_err-line : goal.returns-in_err-line
returns-in_err-line g c = record {
  rested = rests_itself (state g.S.Store c.args.source.now) c.in_old_hall.ensures;
  kept = λ h left may. may;
  stops = λ clean h left may. inl may;
  settled = search rules;
  source_settled = search rules;
  line = search rules;
  same = search rules;
  device = search rules;
  part = search rules;
  memory = λ _. (rested_stayed (rests_itself (state g.T.Store c.args.target.now) c.in_hall.ensures), refl);
  store = search rules;
  cause = search rules;
}

pub returns-in_err-write_all-in-Ok : goal.returns-in_err-write_all-in-Ok
returns-in_err-write_all-in-Ok g c = record {
  rested = c.in-Ok.ensures.source;
  kept = c.in-Ok.ensures.kept;
  stops = c.in-Ok.ensures.stops;
  settled = search rules;
  source_settled = search rules;
  line = search rules;
  same = search rules;
  device = search rules;
  part = λ _. (
    _,
    _,
    (
      c.in-Ok.migrated,
      c.in-Ok.ensures,
      c.migrated_ending-ending.ensures.line,
      c.migrated_ending-ending.ensures.status,
    ),
    rw c.as_bytes.ensures.value at c.in_err-write_all-in-Ok.ensures.part,
  );
  memory = search rules;
  store = search rules;
  cause = search rules;
}

pub returns-in-Err : goal.returns-in-Err
returns-in-Err g c = record {
  rested = c.in-Err.ensures.source;
  kept = c.in-Err.ensures.kept;
  stops = c.in-Err.ensures.stops;
  settled = search rules;
  source_settled = search rules;
  line = search rules;
  same = search rules;
  device = search rules;
  part = search rules;
  memory = search rules;
  store = search rules;
  cause = λ is clean late. c.in-Err.ensures.cause clean late
      (store_failed c.in-Err.fault c.told.result c.told.ensures is);
}
