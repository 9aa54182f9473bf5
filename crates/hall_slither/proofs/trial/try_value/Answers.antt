use Rattle.std.proofs.lemmas.Result.{IfOk-from_err}
use Rattle.std.proofs.Common.{◌≡◌, ℕ, Some, set, subst, length}
use Rattle.hall_solve.specs.Trail.{Trailed, IsTrailed, Grows, IsUndone}
use Rattle.hall_solve.proofs.Trails.{undone_same}
use Rattle.hall_solve.specs.Puzzle.{question_of}
use Rattle.hall_grid.specs.declared.board.Kind.TheVariants.{Slither}
use Rattle.hall_slither.proofs.Trials.{IsTried-step}
use Rattle.hall_slither.proofs.trial.try_value.Goals as goal

restored : (a b c : Trailed) (m : ℕ) → Grows a b → m ≡ length a.trail → IsUndone m b c → IsTrailed a → IsTrailed b
    → IsTrailed c → c ≡ a
restored a b c m g mark u oa ob oc = undone_same a b c oa ob oc g (subst (λ (k : ℕ). IsUndone k b c) mark u)

pub returns-in_err-copied-clause-kept : goal.returns-in_err-copied-clause-kept
returns-in_err-copied-clause-kept c =
    restored c.args.partial.now c.follow_value-step.new.partial c.undo_to.new.self c.mark-mark.result
    c.follow_value-step.ensures.grows c.mark-mark.ensures.mark
    c.undo_to.ensures.undone c.mark-mark.ensures.trailed c.undo_to.ensures.before c.undo_to.ensures.trailed

pub returns-clause-kept : goal.returns-clause-kept
returns-clause-kept c =
    restored c.args.partial.now c.follow_value-step.new.partial c.undo_to.new.self c.mark-mark.result
    c.follow_value-step.ensures.grows c.mark-mark.ensures.mark
    c.undo_to.ensures.undone c.mark-mark.ensures.trailed c.undo_to.ensures.before c.undo_to.ensures.trailed

pub returns-clause-tried : goal.returns-clause-tried
returns-clause-tried c =
    IsTried-step (question_of Slither c.args.puzzle.now) (set c.args.partial.now.places c.args.setting.side
    (Some c.args.setting.value))
    c.follow_value-step.new.partial.places c.copy_since-copied.new.settings.items c.follow_value-step.result
    c.follow_value-step.ensures.step c.in_ok-copied.ensures.held

pub returns-in_err-copy_from-clause-tried : goal.returns-in_err-copy_from-clause-tried
returns-in_err-copy_from-clause-tried c = IfOk-from_err c.from_residual.result _ c.from_residual.ensures.0

pub returns-in_err-copied-clause-tried : goal.returns-in_err-copied-clause-tried
returns-in_err-copied-clause-tried c = IfOk-from_err c.from_residual-in_err-copied.result _
    c.from_residual-in_err-copied.ensures.0
