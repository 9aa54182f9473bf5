use Rattle.std.proofs.Common.{sym, ◌∙◌, ◌≡◌, Some, subst}
use Rattle.std.proofs.lemmas.Result.{on_ok_weaker}
use Rattle.sqlite.specs.Effect.{Database}
use Rattle.hall_sql.specs.PuzzleText.{HasPuzzleRow}
use Rattle.hall_sql.specs.Rows.{world_of}
use Rattle.sqlite.specs.Held.{state}
use Rattle.hall_store.specs.declared.change.Change.TheVariants.{PutPuzzle, SetState}
use Rattle.hall_sql.proofs.PuzzleWrites.{put_sets}
use Rattle.hall_sql.proofs.WriteLemmas.{rested_then, wrote_too}
use Rattle.std.specs.FinMap.{get}
use Rattle.hall_sql.proofs.WriteCauseLemmas.{found_fails, puzzle_served}
use Rattle.hall_sql.specs.WriteCause.{PutPuzzleFails}
use Rattle.hall_policy.specs.declared.record.PuzzleRow.{PuzzleRow}
use Rattle.hall_sql.proofs.puzzles.set_state.Goals as goal

pub returns-in-Some-clause-wrote : goal.returns-in-Some-clause-wrote
returns-in-Some-clause-wrote g c =
    let mid = state g.S.Store c.puzzle.new.conn in
    let new = state g.S.Store c.put_state.new.conn in
    rested_then (SetState c.args.key.now c.args.known) (state g.S.Store c.args.conn.now) mid new c.put_state.result
    c.puzzle.ensures.rested
    (λ clean. (c.in_ok-row.ensures.served clean).0)
    (wrote_too (PutPuzzle (record c.in-Some.row { state = c.args.known })) (SetState c.args.key.now c.args.known) mid
    new c.put_state.result
    (λ clean. put_sets c.args.key.now c.args.known mid.now.trees c.in-Some.row
    (sym c.in-Some.is ∙ (c.in_ok-row.ensures.served clean).1))
    c.put_state.ensures.wrote)

pub returns-in-Some-clause-cause : goal.returns-in-Some-clause-cause
returns-in-Some-clause-cause g c =
    let old = state g.S.Store c.args.conn.now in
    let mid = state g.S.Store c.puzzle.new.conn in
    let new = state g.S.Store c.put_state.new.conn in
    let put = λ (row : PuzzleRow). record row { state = c.args.known } in
    found_fails _ (λ row. PutPuzzleFails (put row) old new) (λ world. get world.puzzles c.args.key.now) c.in-Some.row
    old
    mid new
    c.put_state.result c.puzzle.ensures.rested c.put_state.ensures.wrote.makes.leads.honest
    (λ was. let it = c.in_ok-row.ensures.served was in (it.0, sym it.1 ∙ c.in-Some.is))
    (puzzle_served (put c.in-Some.row) old mid new) c.put_state.ensures.cause

pub returns-in-Some-clause-text : goal.returns-in-Some-clause-text
returns-in-Some-clause-text g c clean =
    let mid = state g.S.Store c.puzzle.new.conn in
    let new = state g.S.Store c.put_state.new.conn in
    let it = c.in_ok-row.ensures.served (c.put_state.ensures.wrote.makes.leads.honest clean) in
    let same = c.puzzle.ensures.rested.same (c.put_state.ensures.wrote.makes.leads.honest clean) it.0 in
    let there : get (world_of (state g.S.Store c.args.conn.now).now.trees).puzzles c.args.key.now ≡ Some c.in-Some.row =
    subst (λ (d : Database). get (world_of d.trees).puzzles c.args.key.now ≡ Some c.in-Some.row) same
    (sym it.1 ∙ c.in-Some.is) in
    on_ok_weaker c.put_state.result (λ stands row found.
    let both : Some row ≡ Some c.in-Some.row = sym found ∙ there in
    let is : row ≡ c.in-Some.row = cc in
    subst (λ (r : PuzzleRow). HasPuzzleRow (record r { state = c.args.known }) new.now) (sym is) stands)
    (c.put_state.ensures.text clean)
