use Rattle.hall_sql.proofs.ReadLemmas.{table_in_hall}
use Rattle.hall_sql.proofs.StoreLemmas.{rested_hall}
use Rattle.hall_sql.proofs.PuzzleTexts.{all_puzzles_are}
use Rattle.hall_sql.proofs.UnreadRows.{all_unread}
use Rattle.hall_sql.proofs.sql_store.SqlStoreReadStore.all_puzzles.Goals as goal

pub invariant_of-self : goal.invariant_of-self
invariant_of-self g c = (rested_hall c.self.invariant c.all_puzzles.ensures.rested).tabled

pub returns : goal.returns
returns g c =
    rw (← c.self.view_is) (table_in_hall _ _ c.all_puzzles.result c.self.invariant
    (all_unread all_puzzles_are) c.all_puzzles.ensures)
