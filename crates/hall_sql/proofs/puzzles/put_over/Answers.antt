use Rattle.std.proofs.Common.{arith}
use Rattle.std.proofs.lemmas.Result.{on_ok_weaker}
use Rattle.sqlite.specs.Held.{state}
use Rattle.sqlite.specs.State.{HasCleanDisk}
use Rattle.hall_store.specs.declared.change.Change.TheVariants.{PutPuzzle}
use Rattle.hall_sql.specs.declared.puzzles.TheConstants.{REPLACE_PUZZLE}
use Rattle.hall_sql.specs.Columns.{puzzle_params}
use Rattle.hall_sql.proofs.PuzzleWrites.{puzzle_replaced, replaced_row}
use Rattle.hall_sql.proofs.StopLemmas.{run_wrote}
use Rattle.hall_sql.proofs.Written.{replace_puzzle_written}
use Rattle.hall_sql.proofs.puzzles.put_over.Goals as goal

pub run-requires-clause-written : goal.run-requires-clause-written
run-requires-clause-written g c = rw c.columns.ensures.bound (replace_puzzle_written c.args.text.now c.args.row.now)

pub returns-clause-wrote : goal.returns-clause-wrote
returns-clause-wrote g c =
    let old = state g.S.Store c.args.conn.now in
    run_wrote (PutPuzzle c.args.row.now) REPLACE_PUZZLE.now (puzzle_params c.args.text.now c.args.row.now) old
    (state g.S.Store c.run.new.conn) c.run.result c.requires.hall
    (replace_puzzle_written c.args.text.now c.args.row.now) (λ was opened new count ran.
    puzzle_replaced c.args.text.now c.args.row.now c.requires.spells c.in_range.ensures c.columns.ensures.in_range old
    new count c.requires.hall
    was (λ opened. c.requires.found was) ran) (rw c.columns.ensures.bound at c.run.ensures.calls)

pub returns-clause-text : goal.returns-clause-text
returns-clause-text g c clean =
    let it = rw c.columns.ensures.bound at c.run.ensures.calls in
    let was : HasCleanDisk (state g.S.Store c.args.conn.now) = omega (arith, c.run.ensures.calls.lasts.clean, clean) in
    on_ok_weaker c.run.result (λ ran.
    replaced_row c.args.text.now c.args.row.now c.requires.spells c.in_range.ensures c.columns.ensures.in_range _ _ _
    c.requires.hall was
    c.requires.canonical (λ opened. c.requires.found was) ran.1) (it.ran clean)
