use Rattle.std.proofs.lemmas.Result.{IfOk-from_err}
use Rattle.hall_slither.proofs.AreColoured.{AreColoured-free}
use Rattle.hall_slither.proofs.follow.learn_all.Goals as goal

pub loop-side-init : goal.loop-side-init
loop-side-init c =
    AreColoured-free c.args.puzzle.now c.args.partial.now.places c.start_over.new.self
    (let e = c.in_ok-start_over.ensures.size in let n = c.cells.ensures in let s = c.size.ensures.size in cc)
    c.in_ok-start_over.ensures.obeyed

pub returns-in_err-start_over-clause-coloured : goal.returns-in_err-start_over-clause-coloured
returns-in_err-start_over-clause-coloured c = IfOk-from_err c.from_residual.result _ c.from_residual.ensures.0

pub returns-in_err-start_over-clause-dead : goal.returns-in_err-start_over-clause-dead
returns-in_err-start_over-clause-dead c = IfOk-from_err c.from_residual.result _ c.from_residual.ensures.0
