use Rattle.std.proofs.lemmas.Result.{IfOk-from_err}
use Rattle.std.proofs.Common.{Some, set, sym, subst, ap}
use Rattle.hall_grid.specs.declared.board.Kind.TheVariants.{Slither}
use Rattle.hall_solve.specs.Question.{IsPartial}
use Rattle.hall_solve.specs.Puzzle.{question_of}
use Rattle.hall_solve.proofs.Boards.{IsPartial-set}
use Rattle.hall_solve.proofs.Trails.{Grows-twice}
use Rattle.hall_slither.specs.Trial.{IsStep}
use Rattle.hall_slither.proofs.IsFollowed.{IsFollowed-at}
use Rattle.hall_slither.proofs.Trials.{IsStep-deduced}
use Rattle.hall_slither.proofs.trial.follow_side.Goals as goal

pub returns-in_ok-pass-in-Live-clause-grows : goal.returns-in_ok-pass-in-Live-clause-grows
returns-in_ok-pass-in-Live-clause-grows c =
    Grows-twice c.args.position.now.partial.now c.set_and_learn.new.position.partial.now
    c.follow_stack.new.position.partial.now c.set_and_learn.ensures.grows c.follow_stack.ensures.followed.grows

pub returns-in_ok-pass-in-Live-clause-step : goal.returns-in_ok-pass-in-Live-clause-step
returns-in_ok-pass-in-Live-clause-step c =
    let q = question_of Slither c.args.position.now.puzzle.now in
    let start = set c.args.position.now.partial.now.places c.args.setting.side (Some c.args.setting.value) in
    subst (λ p. IsStep q p c.follow_stack.new.position.partial.now.places c.step_after.result)
    c.set_and_learn.ensures.places
    (IsStep-deduced q c.set_and_learn.new.position.partial.now.places c.follow_stack.new.position.partial.now.places
    c.in_ok-pass-in-Live.pass c.step_after.result
    (subst (IsPartial q) (sym c.set_and_learn.ensures.places)
    (IsPartial-set q c.args.position.now.partial.now.places c.args.setting.side c.args.setting.value c.requires.side.0
    c.requires.value c.args.position.now.fits))
    c.step_after.ensures (IsFollowed-at c.args.position.now.puzzle.now _ _ _ _
    (ap (λ n. n.0) c.set_and_learn.ensures.same) c.in_ok-pass-in-Live.ensures.followed).deduced)

pub returns-in_err-pass-in-Live-clause-grows : goal.returns-in_err-pass-in-Live-clause-grows
returns-in_err-pass-in-Live-clause-grows c =
    Grows-twice c.args.position.now.partial.now c.set_and_learn.new.position.partial.now
    c.follow_stack.new.position.partial.now c.set_and_learn.ensures.grows c.follow_stack.ensures.followed.grows

pub returns-in_err-set_and_learn-clause-step : goal.returns-in_err-set_and_learn-clause-step
returns-in_err-set_and_learn-clause-step c = IfOk-from_err c.from_residual.result _ c.from_residual.ensures.0

pub returns-in_err-pass-in-Live-clause-step : goal.returns-in_err-pass-in-Live-clause-step
returns-in_err-pass-in-Live-clause-step c = IfOk-from_err c.from_residual-in_err-pass-in-Live.result _
    c.from_residual-in_err-pass-in-Live.ensures.0
