use Rattle.hall_sql.proofs.LastLemmas.{survived, quiet}
use Rattle.hall_sql.proofs.InsideLemmas.{shown_keeps, unshown_keeps}
use Rattle.hall_sql.proofs.calls.ask_in.Goals as goal

pub returns-in-Ok-clause-carries : goal.returns-in-Ok-clause-carries
returns-in-Ok-clause-carries g c = record {
  lasts = survived _ _ _ c.query_all.ensures.survives;
  kept = λ clean inside. shown_keeps _ _ _ _ _ inside (c.in-Ok.ensures.ok clean);
  stops = quiet _ _ c.query_all.ensures.survives;
}

pub returns-in-Err-clause-carries : goal.returns-in-Err-clause-carries
returns-in-Err-clause-carries g c = record {
  lasts = survived _ _ _ c.query_all.ensures.survives;
  kept = λ clean inside. unshown_keeps _ _ _ _ _ (c.in-Err.ensures.err clean);
  stops = quiet _ _ c.query_all.ensures.survives;
}

pub returns-in-Err-clause-cause : goal.returns-in-Err-clause-cause
returns-in-Err-clause-cause g c clean = λ failed. (
  c.in-Err.error,
  c.fault_of.ensures failed,
  c.in-Err.ensures.err
      clean,
)
