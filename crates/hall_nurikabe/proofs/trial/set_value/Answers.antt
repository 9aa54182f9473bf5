use Rattle.std.proofs.Common.{◌≡◌, ℕ, ◌++◌, ◌∷◌, [], List, Option, Some, None, get_or, set, subst}
use Rattle.hall_grid.specs.declared.board.Kind.TheVariants.{Nurikabe}
use Rattle.hall_solve.specs.Deduction.{IsDeduced}
use Rattle.hall_solve.specs.Puzzle.{question_of}
use Rattle.hall_solve.specs.Question.{IsHopeless}
use Rattle.hall_solve.specs.declared.deduce.Pass.{Pass}
use Rattle.hall_solve.specs.declared.deduce.Pass.TheVariants.{Dead}
use Rattle.hall_solve.specs.Trail.{Trailed, Grows}
use Rattle.hall_solve.proofs.Trails.{Grows-set, Grows-twice}
use Rattle.hall_nurikabe.proofs.trial.set_value.Goals as goal

grown : (a s b : Trailed) (cell v : ℕ) → get_or a.places cell None ≡ None → s.places ≡ set a.places cell (Some v)
    → s.trail ≡ a.trail ++ cell ∷ []
    → Grows s b → Grows a b
grown a s b cell v unset places trail grows = Grows-twice a s b (Grows-set a s cell v unset places trail) grows

pub returns-in-Dead-clause-dead : goal.returns-in-Dead-clause-dead
returns-in-Dead-clause-dead c = λ none.
    let q = question_of Nurikabe c.args.puzzle.now in
    let begun = c.set.new.self.places in
    let after = c.follow.new.partial.places in
    let dead : IsDeduced q begun after Dead = subst (λ (x : Pass). IsDeduced q begun after x) c.in-Dead.is
    c.in_ok-follow.ensures.deduced in
    subst (λ (p : List (Option ℕ)). IsHopeless q p) c.set.ensures.places dead

pub returns-in-Dead-clause-grows : goal.returns-in-Dead-clause-grows
returns-in-Dead-clause-grows c =
    grown c.args.partial.now c.set.new.self c.follow.new.partial c.args.cell c.args.value c.requires.cell.1
    c.set.ensures.places c.set.ensures.trail c.follow.ensures.grows

pub returns-in_err-follow-clause-grows : goal.returns-in_err-follow-clause-grows
returns-in_err-follow-clause-grows c =
    grown c.args.partial.now c.set.new.self c.follow.new.partial c.args.cell c.args.value c.requires.cell.1
    c.set.ensures.places c.set.ensures.trail c.follow.ensures.grows

pub returns-in-Settled-clause-grows : goal.returns-in-Settled-clause-grows
returns-in-Settled-clause-grows c =
    grown c.args.partial.now c.set.new.self c.follow.new.partial c.args.cell c.args.value c.requires.cell.1
    c.set.ensures.places c.set.ensures.trail c.follow.ensures.grows
