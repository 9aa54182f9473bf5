use Rattle.std.proofs.lemmas.Result.{IfOk-from_err}
use Rattle.std.proofs.Common.{set, Some, sym, subst}
use Rattle.hall_grid.specs.declared.board.Kind.TheVariants.{Slither}
use Rattle.hall_solve.specs.Question.{Narrows, IsHopeless}
use Rattle.hall_solve.specs.Puzzle.{question_of}
use Rattle.hall_solve.proofs.Boards.{Narrows-forced, Narrows-itself, forced_after, hopeless_before}
use Rattle.hall_slither.proofs.IsFollowed.{IsFollowed-error}
use Rattle.hall_slither.proofs.follow.set_side.Goals as goal

pub returns-in_err-set_and_learn-clause-followed : goal.returns-in_err-set_and_learn-clause-followed
returns-in_err-set_and_learn-clause-followed c =
    let now = c.args.position.now in
    let q = question_of Slither now.puzzle.now in
    IsFollowed-error now.puzzle.now now.partial.now c.set_and_learn.new.position.partial.now c.from_residual.result
    c.from_residual.ensures.0
    (subst (λ p. Narrows q now.partial.now.places p) (sym c.set_and_learn.ensures.places)
    (Narrows-forced q now.partial.now.places c.args.setting.side c.args.setting.value now.fits c.requires))
    c.set_and_learn.ensures.grows

pub returns-in-Live-clause-followed : goal.returns-in-Live-clause-followed
returns-in-Live-clause-followed c =
    let now = c.args.position.now in
    let q = question_of Slither now.puzzle.now in
    let p = now.partial.now.places in
    let after = forced_after q p p c.args.setting.side c.args.setting.value now.fits (Narrows-itself q p now.fits)
    c.requires in
    record { deduced = rw c.set_and_learn.ensures.places after; err = tt; grows = c.set_and_learn.ensures.grows }

pub returns-in-Dead-clause-followed : goal.returns-in-Dead-clause-followed
returns-in-Dead-clause-followed c =
    let now = c.args.position.now in
    let q = question_of Slither now.puzzle.now in
    let p = now.partial.now.places in
    let dead : IsHopeless q c.set_and_learn.new.position.partial.now.places = c.in_ok-set_and_learn.ensures.dead
    c.in-Dead.is in
    record {
      deduced = hopeless_before q p (set p c.args.setting.side (Some c.args.setting.value))
          (Narrows-forced q p c.args.setting.side c.args.setting.value now.fits c.requires)
          (subst (λ x. IsHopeless q x) c.set_and_learn.ensures.places dead);
      err = tt;
      grows = c.set_and_learn.ensures.grows;
    }

pub returns-in_err-set_and_learn-clause-advanced : goal.returns-in_err-set_and_learn-clause-advanced
returns-in_err-set_and_learn-clause-advanced c = IfOk-from_err c.from_residual.result _ c.from_residual.ensures.0

pub returns-in_err-set_and_learn-clause-work : goal.returns-in_err-set_and_learn-clause-work
returns-in_err-set_and_learn-clause-work c = IfOk-from_err c.from_residual.result _ c.from_residual.ensures.0
