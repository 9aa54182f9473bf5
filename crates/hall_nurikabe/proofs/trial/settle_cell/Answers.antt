use Rattle.std.proofs.Common.{subst}
use Rattle.hall_grid.specs.declared.board.Kind.TheVariants.{Nurikabe}
use Rattle.hall_solve.specs.Deduction.{IsDeduced, IsSound}
use Rattle.hall_solve.specs.Puzzle.{question_of}
use Rattle.hall_solve.specs.Trail.{Trailed}
use Rattle.hall_solve.specs.declared.deduce.Finding.{Finding}
use Rattle.hall_solve.specs.declared.deduce.Pass.{Pass}
use Rattle.hall_solve.specs.declared.deduce.Pass.TheVariants.{Settled, Advanced}
use Rattle.hall_solve.proofs.Boards.{Narrows-twice, hopeless_before}
use Rattle.hall_solve.proofs.Trails.{Grows-twice}
use Rattle.hall_nurikabe.proofs.Passes.{IsSoFar, IsSoFar-begin, IsSoFar-set, IsSoFar-then, on_err}
use Rattle.hall_nurikabe.proofs.trial.settle_cell.Goals as goal
use Rattle.hall_nurikabe.proofs.trial.settle_cell.Goals.{After-set}

set_so_far : (c : After-set) → IsSoFar (question_of Nurikabe c.args.puzzle.now) c.args.partial.now c.set.new.self
    Advanced
set_so_far c =
    let q = question_of Nurikabe c.args.puzzle.now in
    let start = c.args.partial.now in
    let board = c.try_cell.new.partial in
    let found = subst (λ (x : Finding). IsSound q start.places x) c.in-Must.is c.in_ok-try_cell.ensures.sound in
    IsSoFar-set q start board c.set.new.self c.requires.partial Settled
    (rw c.try_cell.ensures.kept (IsSoFar-begin q start c.requires.partial))
    c.in-Must.place c.in-Must.value (rw c.try_cell.ensures.kept found) c.set.ensures.places c.set.ensures.trail

pub returns-in_err-follow_news-in-Must-clause-err : goal.returns-in_err-follow_news-in-Must-clause-err
returns-in_err-follow_news-in-Must-clause-err c =
    let so_far = set_so_far (goal.at.returns-in_err-follow_news-in-Must-clause-err c).After-set in
    on_err c.from_residual-in_err-follow_news-in-Must.result
    (Narrows-twice (question_of Nurikabe c.args.puzzle.now) c.args.partial.now.places c.set.new.self.places
    c.follow_news.new.partial.places
    so_far.narrows c.in_err-follow_news-in-Must.ensures.err)

pub returns-in_err-follow_news-in-Must-clause-grows : goal.returns-in_err-follow_news-in-Must-clause-grows
returns-in_err-follow_news-in-Must-clause-grows c =
    let so_far = set_so_far (goal.at.returns-in_err-follow_news-in-Must-clause-grows c).After-set in
    Grows-twice c.args.partial.now c.set.new.self c.follow_news.new.partial so_far.grows c.follow_news.ensures.grows

pub returns-in-Dead-clause-deduced : goal.returns-in-Dead-clause-deduced
returns-in-Dead-clause-deduced c =
    let q = question_of Nurikabe c.args.puzzle.now in
    let so_far = set_so_far (goal.at.returns-in-Dead-clause-deduced c).After-set in
    hopeless_before q c.args.partial.now.places c.set.new.self.places so_far.narrows
    (subst (λ (x : Pass). IsDeduced q c.set.new.self.places c.follow_news.new.partial.places x) c.in-Dead.is
    c.in_ok-follow_news-in-Must.ensures.deduced)

pub returns-in-Dead-clause-grows : goal.returns-in-Dead-clause-grows
returns-in-Dead-clause-grows c =
    let so_far = set_so_far (goal.at.returns-in-Dead-clause-grows c).After-set in
    Grows-twice c.args.partial.now c.set.new.self c.follow_news.new.partial so_far.grows c.follow_news.ensures.grows

pub returns-in_default : goal.returns-in_default
returns-in_default c =
    let q = question_of Nurikabe c.args.puzzle.now in
    let so_far = IsSoFar-then q c.args.partial.now c.set.new.self c.follow_news.new.partial c.requires.partial
    (set_so_far (goal.at.returns-in_default c).After-set) c.follow_news.ensures.grows
    _ c.in_default.not-Dead c.in_ok-follow_news-in-Must.ensures.deduced in
    record { deduced = so_far.deduced; err = tt; grows = so_far.grows }
