use Rattle.hall_http.proofs.Told.{one_spelling, refusals_tell_nothing, bytes_hide_others, bytes_hide_answers}
use Rattle.hall_http.proofs.laws.law_bytes.Goals as goal

pub returns-clause-spelling : goal.returns-clause-spelling
returns-clause-spelling c = one_spelling

pub returns-clause-refusals : goal.returns-clause-refusals
returns-clause-refusals c = refusals_tell_nothing

pub returns-clause-others : goal.returns-clause-others
returns-clause-others c = bytes_hide_others

pub returns-clause-answers : goal.returns-clause-answers
returns-clause-answers c = bytes_hide_answers
