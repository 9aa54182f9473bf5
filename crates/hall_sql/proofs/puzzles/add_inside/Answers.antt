use Rattle.std.proofs.Common.{rules}
use Rattle.std.proofs.lemmas.Result.{IfErr-weaker, on_ok_weaker}
use Rattle.sqlite.specs.Held.{state}
use Rattle.hall_grid.specs.Text.{SpellsText}
use Rattle.hall_grid.specs.Canonical.{CanonicalText}
use Rattle.hall_sql.specs.declared.puzzles.TheConstants.{ADD_PUZZLE}
use Rattle.hall_sql.specs.Columns.{puzzle_params}
use Rattle.hall_sql.specs.Fill.{AddsPuzzle}
use Rattle.hall_sql.proofs.InsideLemmas.{did_run}
use Rattle.hall_sql.proofs.PuzzleWrites.{puzzle_put}
use Rattle.hall_sql.proofs.FillCauseLemmas.{spelled_refused}
use Rattle.hall_sql.proofs.Written.{add_puzzle_written}
use Rattle.hall_sql.proofs.puzzles.add_inside.Goals as goal

pub write_in-requires : goal.write_in-requires
write_in-requires g c = record {
  written = rw c.columns.ensures.bound
      (add_puzzle_written c.as_str.result.now c.args.row.now);
}

pub returns-clause-done : goal.returns-clause-done
returns-clause-done g c clean inside =
    let text = c.as_str.result.now in
    let row = c.args.row.now in
    let spells : SpellsText text row.puzzle = search rules in
    let canonical : CanonicalText text row.puzzle = search rules in
    on_ok_weaker c.write_in.result (λ it.
    did_run (λ a b. AddsPuzzle a row b) ADD_PUZZLE.now (puzzle_params text row) (state g.S.Store c.args.tx.now.conn.now)
    (state g.S.Store c.write_in.new.tx.conn.now) it (λ count ran held.
    let put = puzzle_put text row spells c.in_range.ensures c.columns.ensures.in_range _ _ count ran held in
    (put.0, (text, canonical, put.1)))) ((rw c.columns.ensures.bound at c.write_in.ensures.ran) clean inside)

pub returns-clause-cause : goal.returns-clause-cause
returns-clause-cause g c clean goes =
    let text = c.as_str.result.now in
    let row = c.args.row.now in
    let canonical : CanonicalText text row.puzzle = search rules in
    IfErr-weaker c.write_in.result _ _ (λ fault why failed.
    spelled_refused row text (state g.S.Store c.args.tx.now.conn.now) (state g.S.Store c.write_in.new.tx.conn.now)
    canonical (why failed)) ((rw c.columns.ensures.bound at c.write_in.ensures.cause) clean goes)
