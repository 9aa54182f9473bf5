use Rattle.std.proofs.Common.{List, Option, ℕ, subst}
use Rattle.std.specs.Prelude.{IsTrue}
use Rattle.std.proofs.lemmas.Result.{IfOk-weaker}
use Rattle.hall_grid.specs.declared.board.Kind.TheVariants.{Nurikabe}
use Rattle.hall_solve.specs.Puzzle.{question_of}
use Rattle.hall_solve.specs.Question.{IsHopeless}
use Rattle.hall_solve.proofs.Trails.{Grows-set}
use Rattle.hall_nurikabe.proofs.Trials.{restored}
use Rattle.hall_nurikabe.proofs.cut.are_apart_without.Goals as goal

pub returns-clause-kept : goal.returns-clause-kept
returns-clause-kept c =
    restored c.args.partial.now c.set.new.self c.undo_to.new.self c.mark-mark.result
    (Grows-set c.args.partial.now c.set.new.self c.args.cell 0 c.requires.cell.1 c.set.ensures.places
    c.set.ensures.trail)
    c.mark-mark.ensures.mark c.undo_to.ensures.undone c.mark-mark.ensures.trailed c.undo_to.ensures.before
    c.undo_to.ensures.trailed

pub returns-clause-apart : goal.returns-clause-apart
returns-clause-apart c =
    IfOk-weaker c.are_apart-apart.result (λ apart. IsTrue apart → IsHopeless (question_of Nurikabe c.args.puzzle.now)
    c.set.new.self.places) _
    (λ apart hopeless yes.
    subst (λ (p : List (Option ℕ)). IsHopeless (question_of Nurikabe c.args.puzzle.now) p) c.set.ensures.places
    (hopeless yes))
    c.are_apart-apart.ensures
