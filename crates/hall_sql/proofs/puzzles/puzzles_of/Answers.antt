use Rattle.sqlite.specs.Held.{state}
use Rattle.hall_sql.proofs.PuzzleListings.{puzzles_of_listed}
use Rattle.hall_sql.proofs.ReadLemmas.{reads_rows}
use Rattle.hall_sql.proofs.PuzzleTexts.{puzzles_of_is}
use Rattle.hall_sql.proofs.Queries.{asked}
use Rattle.hall_sql.proofs.UnreadRows.{unread}
use Rattle.hall_sql.proofs.puzzles.puzzles_of.Goals as goal

pub read-requires-clause-asks : goal.read-requires-clause-asks
read-requires-clause-asks g c =
    rw (c.params-to_sql.ensures, c.as_str.ensures.text) (asked (puzzles_of_is c.args.author.now))

pub returns : goal.returns
returns g c =
    reads_rows _ _ _ c.read.result _ c.requires.hall
    c.read.ensures.rested (λ out. out.items) (unread (puzzles_of_is c.args.author.now))
    (rw (c.params-to_sql.ensures, c.as_str.ensures.text) at c.read.ensures.read)
    (rw (c.params-to_sql.ensures, c.as_str.ensures.text) at c.read.ensures.cause)
    (λ out it opened has keyed. puzzles_of_listed _ (state g.S.Store c.read.new.conn) has keyed.1.0
    (c.schema-schema.ensures.live opened).0 it.rows out.items it.reads c.args.author.now it.shown)
