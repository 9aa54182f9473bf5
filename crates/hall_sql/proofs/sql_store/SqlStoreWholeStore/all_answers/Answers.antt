use Rattle.hall_sql.proofs.ReadLemmas.{table_in_hall}
use Rattle.hall_sql.proofs.StoreLemmas.{rested_hall}
use Rattle.hall_sql.proofs.AnswerTexts.{all_answers_are}
use Rattle.hall_sql.proofs.UnreadRows.{all_unread}
use Rattle.hall_sql.proofs.sql_store.SqlStoreWholeStore.all_answers.Goals as goal

pub invariant_of-self : goal.invariant_of-self
invariant_of-self g c = (rested_hall c.self.invariant c.all_answers.ensures.rested).tabled

pub returns : goal.returns
returns g c =
    rw (← c.self.view_is) (table_in_hall _ _ c.all_answers.result c.self.invariant (all_unread all_answers_are)
    c.all_answers.ensures)
