use Rattle.std.proofs.lemmas.Result.{IfOk-from_err}
use Rattle.std.proofs.Common.{Some, set, subst, ap}
use Rattle.hall_grid.specs.declared.board.Kind.TheVariants.{Slither}
use Rattle.hall_solve.specs.Question.{Narrows}
use Rattle.hall_solve.specs.Puzzle.{question_of}
use Rattle.hall_solve.specs.declared.rules.Step.{Step}
use Rattle.hall_solve.proofs.Trails.{Grows-twice}
use Rattle.hall_slither.specs.Trial.{IsStep}
use Rattle.hall_slither.proofs.IsFollowed.{IsFollowed-at}
use Rattle.hall_slither.proofs.Trials.{IsStep-deduced, IsStep-twice}
use Rattle.hall_slither.proofs.trial.follow_early.Goals as goal

pub returns-in_ok-pass-in-Live-clause-step : goal.returns-in_ok-pass-in-Live-clause-step
returns-in_ok-pass-in-Live-clause-step c =
    let now = c.args.position.now in
    let q = question_of Slither now.puzzle.now in
    let start = set now.partial.now.places c.args.setting.side (Some c.args.setting.value) in
    let there = c.follow_side.new.position.partial.now.places in
    let after = c.clear_early.new.position.partial.now.places in
    let narrows : Narrows q start there = subst (λ (x : Step). IsStep q start there x) c.in-Live.is
    c.in_ok-follow_side.ensures.step in
    IsStep-twice q start there after c.step_after.result narrows
    (IsStep-deduced q there after c.in_ok-pass-in-Live.pass c.step_after.result narrows.partial c.step_after.ensures
    (IsFollowed-at now.puzzle.now _ _ _ _ (ap (λ n. n.0) c.follow_side.ensures.same)
    c.in_ok-pass-in-Live.ensures.followed).deduced)

pub returns-in_ok-pass-in-Live-clause-grows : goal.returns-in_ok-pass-in-Live-clause-grows
returns-in_ok-pass-in-Live-clause-grows c =
    Grows-twice c.args.position.now.partial.now c.follow_side.new.position.partial.now
    c.clear_early.new.position.partial.now c.follow_side.ensures.grows c.clear_early.ensures.followed.grows

pub returns-in_err-pass-in-Live-clause-grows : goal.returns-in_err-pass-in-Live-clause-grows
returns-in_err-pass-in-Live-clause-grows c =
    Grows-twice c.args.position.now.partial.now c.follow_side.new.position.partial.now
    c.clear_early.new.position.partial.now c.follow_side.ensures.grows c.clear_early.ensures.followed.grows

pub returns-in_err-follow_side-clause-step : goal.returns-in_err-follow_side-clause-step
returns-in_err-follow_side-clause-step c = IfOk-from_err c.from_residual.result _ c.from_residual.ensures.0

pub returns-in_err-pass-in-Live-clause-step : goal.returns-in_err-pass-in-Live-clause-step
returns-in_err-pass-in-Live-clause-step c = IfOk-from_err c.from_residual-in_err-pass-in-Live.result _
    c.from_residual-in_err-pass-in-Live.ensures.0
