use Rattle.hall_sql.proofs.StatementLaws.{asks_of_people, asks_of_puzzles, asks_of_rounds, asks_of_places, asks_of_testers}
use Rattle.hall_sql.proofs.StatementLaws.{asks_of_answers, asks_of_protests, asks_for_rowids}
use Rattle.hall_sql.proofs.laws.law_statements.Goals as goal

pub returns-clause-people : goal.returns-clause-people
returns-clause-people c = asks_of_people

pub returns-clause-puzzles : goal.returns-clause-puzzles
returns-clause-puzzles c = asks_of_puzzles

pub returns-clause-rounds : goal.returns-clause-rounds
returns-clause-rounds c = asks_of_rounds

pub returns-clause-places : goal.returns-clause-places
returns-clause-places c = asks_of_places

pub returns-clause-testers : goal.returns-clause-testers
returns-clause-testers c = asks_of_testers

pub returns-clause-answers : goal.returns-clause-answers
returns-clause-answers c = asks_of_answers

pub returns-clause-protests : goal.returns-clause-protests
returns-clause-protests c = asks_of_protests

pub returns-clause-rowids : goal.returns-clause-rowids
returns-clause-rowids c = asks_for_rowids
