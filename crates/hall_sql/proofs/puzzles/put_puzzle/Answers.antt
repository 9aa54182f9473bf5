use Rattle.sqlite.specs.Held.{state}
use Rattle.hall_store.specs.declared.change.Change.TheVariants.{PutPuzzle}
use Rattle.hall_sql.proofs.WriteLemmas.{rested_then, rested_wrote_as}
use Rattle.sqlite.specs.State.{HasCleanDisk}
use Rattle.std.proofs.lemmas.Result.{IfErr-weaker}
use Rattle.hall_sql.proofs.WriteCauseLemmas.{puzzle_found}
use Rattle.hall_sql.proofs.puzzles.put_puzzle.Goals as goal

pub returns-clause-wrote : goal.returns-clause-wrote
returns-clause-wrote g c =
    rested_then (PutPuzzle c.args.row.now) (state g.S.Store c.args.conn.now) (state g.S.Store c.look.new.conn) _
    c.put_found.result
    c.look.ensures.rested c.in_ok-count.ensures.serves c.put_found.ensures.wrote

pub returns-clause-cause : goal.returns-clause-cause
returns-clause-cause g c clean =
    let mid = state g.S.Store c.look.new.conn in
    let was : HasCleanDisk mid = c.put_found.ensures.wrote.makes.leads.honest clean in
    let opens = c.in_ok-count.ensures.serves was in
    IfErr-weaker c.put_found.result _ _ (λ fault why failed.
    puzzle_found c.args.row.now c.in_ok-count.count (state g.S.Store c.args.conn.now) mid
    (state g.S.Store c.put_found.new.conn)
    c.look.ensures.rested.follows.lasts.counts opens (c.look.ensures.rested.same was opens)
    (c.in_ok-count.ensures.found was) (why failed)) (c.put_found.ensures.cause clean)

pub returns-in_err-count-clause-wrote : goal.returns-in_err-count-clause-wrote
returns-in_err-count-clause-wrote g c =
    rested_wrote_as (PutPuzzle c.args.row.now) (state g.S.Store c.args.conn.now) (state g.S.Store c.look.new.conn) _
    c.from_residual-in_err-count.result
    c.from_residual-in_err-count.ensures.1 c.in_err-count.ensures.rested
