use Rattle.std.proofs.lemmas.Result.{IfOk-from_err}
use Rattle.hall_solve.proofs.Trails.{Grows-itself}
use Rattle.std.proofs.Common.{◌≡◌, subst}
use Rattle.std.specs.Prelude.{Result, Ok, Err, IfOk, OnErr, List, Option, ℕ}
use Rattle.hall_grid.specs.Board.{Board}
use Rattle.hall_solve.specs.Question.{Narrows}
use Rattle.hall_solve.specs.Deduction.{IsDeduced}
use Rattle.hall_solve.specs.declared.deduce.Pass.{Pass}
use Rattle.hall_solve.specs.declared.deduce.Pass.TheVariants.{Dead}
use Rattle.hall_slither.specs.Chain.{AreLines}
use Rattle.hall_slither.specs.Close.{Layout, layout_question}
use Rattle.hall_grid.specs.declared.board.Kind.TheVariants.{Slither}
use Rattle.hall_solve.specs.Puzzle.{question_of}
use Rattle.hall_slither.proofs.LayoutQuestion.{Narrows-puzzle, IsDeduced-puzzle}
use Rattle.hall_slither.proofs.close.close_chains.Goals as goal

IfOk-puzzle : {E : Type 0} (layout : Layout) (board : Board) (old new : List (Option ℕ)) (r : Result Pass E)
    → layout.board ≡ board → AreLines old layout.lines
    → IfOk r (IsDeduced (layout_question layout) old new) → IfOk r (IsDeduced (question_of Slither board) old new)
IfOk-puzzle layout board old new (Ok pass) e are h = subst (λ b. IsDeduced (question_of Slither b) old new pass) e
    (IsDeduced-puzzle layout old are new pass h)
IfOk-puzzle layout board old new (Err x) e are h = tt

OnErr-puzzle : {E : Type 0} (layout : Layout) (board : Board) (old new : List (Option ℕ)) (r : Result Pass E)
    → layout.board ≡ board → AreLines old layout.lines
    → OnErr r (Narrows (layout_question layout) old new) → OnErr r (Narrows (question_of Slither board) old new)
OnErr-puzzle layout board old new (Ok pass) e are h = tt
OnErr-puzzle layout board old new (Err x) e are h = subst (λ b. Narrows (question_of Slither b) old new) e
    (Narrows-puzzle layout old are new h)

pub returns-clause-deduced : goal.returns-clause-deduced
returns-clause-deduced c =
    IfOk-puzzle c.in_ok-chains.chains c.args.puzzle.now c.args.partial.now.places c.sweep.new.partial.places
    c.sweep.result c.in_ok-chains.ensures.board c.in_ok-chains.ensures.lines
    c.sweep.ensures.deduced

pub returns-clause-err : goal.returns-clause-err
returns-clause-err c =
    OnErr-puzzle c.in_ok-chains.chains c.args.puzzle.now c.args.partial.now.places c.sweep.new.partial.places
    c.sweep.result c.in_ok-chains.ensures.board c.in_ok-chains.ensures.lines
    c.sweep.ensures.err

pub returns-then-has_wrong_loop-clause-deduced : goal.returns-then-has_wrong_loop-clause-deduced
returns-then-has_wrong_loop-clause-deduced c =
    subst (λ b. IsDeduced (question_of Slither b) c.args.partial.now.places c.args.partial.now.places Dead)
    c.in_ok-chains.ensures.board
    (IsDeduced-puzzle c.in_ok-chains.chains c.args.partial.now.places c.in_ok-chains.ensures.lines
    c.args.partial.now.places Dead
    (c.has_wrong_loop.ensures.hopeless c.if-has_wrong_loop.true c.args.partial.now.places))

pub returns-in_err-chains-clause-grows : goal.returns-in_err-chains-clause-grows
returns-in_err-chains-clause-grows c = Grows-itself c.args.partial.now

pub returns-then-has_wrong_loop-clause-grows : goal.returns-then-has_wrong_loop-clause-grows
returns-then-has_wrong_loop-clause-grows c = Grows-itself c.args.partial.now

pub returns-in_err-chains-clause-deduced : goal.returns-in_err-chains-clause-deduced
returns-in_err-chains-clause-deduced c = IfOk-from_err c.from_residual.result _ c.from_residual.ensures.0
