use Rattle.hall_sql.proofs.calls.run_in.Goals as goal

pub returns-in-Err-clause-cause : goal.returns-in-Err-clause-cause
returns-in-Err-clause-cause g c clean inside = λ failed. (
  c.in-Err.error,
  c.fault_of.ensures failed,
  c.in-Err.ensures.runs clean inside,
)
