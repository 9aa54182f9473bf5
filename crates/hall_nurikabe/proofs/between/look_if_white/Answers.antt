use Rattle.std.proofs.Common.{List, Option, ℕ, subst}
use Rattle.std.proofs.lemmas.Result.{IfOk-weaker}
use Rattle.hall_grid.specs.declared.board.Kind.TheVariants.{Nurikabe}
use Rattle.hall_solve.specs.Deduction.{IsSound}
use Rattle.hall_solve.specs.Puzzle.{question_of}
use Rattle.hall_solve.specs.Question.{IsHopeless}
use Rattle.hall_solve.specs.declared.deduce.Finding.{Finding}
use Rattle.hall_solve.specs.declared.deduce.Finding.TheVariants.{Impossible}
use Rattle.hall_solve.proofs.Trails.{Grows-set}
use Rattle.hall_nurikabe.proofs.Trials.{restored}
use Rattle.hall_nurikabe.proofs.between.look_if_white.Goals as goal

pub returns-clause-kept : goal.returns-clause-kept
returns-clause-kept c =
    restored c.args.partial.now c.set.new.self c.undo_to.new.self c.mark-mark.result
    (Grows-set c.args.partial.now c.set.new.self c.args.cell 0 c.requires.cell.1 c.set.ensures.places
    c.set.ensures.trail)
    c.mark-mark.ensures.mark c.undo_to.ensures.undone c.mark-mark.ensures.trailed c.undo_to.ensures.before
    c.undo_to.ensures.trailed

pub returns-clause-dead : goal.returns-clause-dead
returns-clause-dead c =
    let q = question_of Nurikabe c.args.puzzle.now in
    let begun = c.set.new.self.places in
    IfOk-weaker c.look_at_cell-found.result (IsSound q begun) _
    (λ found sound e.
    subst (λ (p : List (Option ℕ)). IsHopeless q p) c.set.ensures.places
    (subst (λ (x : Finding). IsSound q begun x) e sound))
    c.look_at_cell-found.ensures
