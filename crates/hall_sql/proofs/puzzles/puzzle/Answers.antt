use Rattle.std.proofs.Common.{◌∙◌, [], ◌∷◌}
use Rattle.sqlite.specs.Held.{state}
use Rattle.sqlite.specs.declared.types.Value.TheVariants.{Text}
use Rattle.hall_sql.specs.declared.puzzles.TheConstants.{PUZZLE}
use Rattle.hall_sql.proofs.PuzzleLemmas.{puzzle_found}
use Rattle.hall_sql.proofs.ReadLemmas.{finds_row}
use Rattle.hall_sql.proofs.UnreadRows.{asks_one, puzzle_one, unread}
use Rattle.hall_sql.proofs.PuzzleTexts.{puzzle_is}
use Rattle.hall_sql.proofs.Queries.{asked}
use Rattle.hall_sql.proofs.puzzles.puzzle.Goals as goal

pub find-requires-clause-asks : goal.find-requires-clause-asks
find-requires-clause-asks g c =
    rw (c.params-to_sql.ensures, c.params-to_sql-2.ensures, c.as_str.ensures.text, c.as_str-2.ensures.text)
    (asked (puzzle_is c.args.key.now))

pub find-requires-clause-one : goal.find-requires-clause-one
find-requires-clause-one g c =
    rw (c.params-to_sql.ensures, c.params-to_sql-2.ensures, c.as_str.ensures.text, c.as_str-2.ensures.text)
    (asks_one g.S.Store PUZZLE.now (Text c.args.key.now.author ∷ Text c.args.key.now.label ∷ [])
    (puzzle_one c.args.key.now))

pub returns : goal.returns
returns g c =
    let told = rw (c.params-to_sql.ensures, c.params-to_sql-2.ensures, c.as_str.ensures.text, c.as_str-2.ensures.text)
    at c.find.ensures in
    finds_row _ _ _ c.find.result _
    c.requires.hall told.rested (unread (puzzle_is c.args.key.now)) told.found told.cause
    (λ found it opened has keyed. it.is ∙ puzzle_found c.args.key.now _ (state g.S.Store c.find.new.conn) it.are.1.rows
    it.records has it.are.1.shown it.are.1.reads it.few)
