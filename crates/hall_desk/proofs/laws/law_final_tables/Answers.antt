use Rattle.hall_desk.proofs.Finality.{published_rounds_stay, tables_are_final}
use Rattle.hall_desk.proofs.laws.law_final_tables.Goals as goal

pub returns-clause-rounds : goal.returns-clause-rounds
returns-clause-rounds c = published_rounds_stay

pub returns-clause-tables : goal.returns-clause-tables
returns-clause-tables c = tables_are_final
