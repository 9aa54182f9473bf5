use Rattle.std.proofs.lemmas.Result.{IfOk-from_err}
use Rattle.std.proofs.Common.{◌≡◌, ℕ, List, Option, Some, set, subst, rules}
use Rattle.hall_grid.specs.declared.board.Kind.TheVariants.{Slither}
use Rattle.hall_solve.specs.Question.{Question, Narrows}
use Rattle.hall_solve.specs.Deduction.{IsDeduced}
use Rattle.hall_solve.specs.declared.deduce.Pass.{Pass}
use Rattle.hall_solve.specs.Puzzle.{question_of}
use Rattle.hall_solve.specs.declared.rules.Step.{Step}
use Rattle.hall_slither.specs.Trial.{IsStep, step_after}
use Rattle.hall_slither.proofs.IsFollowed.{Grows-lent}
use Rattle.hall_slither.proofs.Trials.{IsStep-deduced, IsStep-twice}
use Rattle.hall_slither.proofs.trial.follow_value.Goals as goal

step_after_pass : (q : Question) (start there x after : List (Option ℕ)) (pass : Pass) (step : Step)
    → Narrows q start there
    → step ≡ step_after pass → IsDeduced q x after pass → x ≡ there → IsStep q start after step
step_after_pass q start there x after pass step narrows e deduced same =
    IsStep-twice q start there after step narrows (IsStep-deduced q there after pass step narrows.partial e
    (subst (λ p. IsDeduced q p after pass) same deduced))

pub returns-clause-step : goal.returns-clause-step
returns-clause-step c =
    let q = question_of Slither c.args.puzzle.now in
    let start = set c.args.partial.now.places c.args.setting.side (Some c.args.setting.value) in
    let there = c.follow_early.new.position.partial.now in
    let narrows : Narrows q start there.places = subst (λ (x : Step). IsStep q start there.places x) c.in-Live.is
    c.in_ok-follow_early.ensures.step in
    step_after_pass q start there.places _ c.close_chains.new.partial.places c.in_ok-pass.pass c.step_after.result
    narrows c.step_after.ensures c.in_ok-pass.ensures.deduced (search rules)

pub returns-clause-grows : goal.returns-clause-grows
returns-clause-grows c =
    Grows-lent c.args.partial.now c.follow_early.new.position.partial.now _ c.close_chains.new.partial
    c.follow_early.ensures.grows c.close_chains.ensures.grows (search rules)

pub returns-in_err-pass-clause-grows : goal.returns-in_err-pass-clause-grows
returns-in_err-pass-clause-grows c =
    Grows-lent c.args.partial.now c.follow_early.new.position.partial.now _ c.close_chains.new.partial
    c.follow_early.ensures.grows c.close_chains.ensures.grows (search rules)

pub returns-in_err-pass-clause-step : goal.returns-in_err-pass-clause-step
returns-in_err-pass-clause-step c = IfOk-from_err c.from_residual-in_err-pass.result _
    c.from_residual-in_err-pass.ensures.0

pub returns-in_err-follow_early-clause-step : goal.returns-in_err-follow_early-clause-step
returns-in_err-follow_early-clause-step c = IfOk-from_err c.from_residual.result _ c.from_residual.ensures.0
