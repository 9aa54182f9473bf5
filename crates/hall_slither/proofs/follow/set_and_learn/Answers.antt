use Rattle.std.proofs.lemmas.Result.{IfOk-from_err}
use Rattle.std.proofs.Common.{Some, set}
use Rattle.hall_grid.specs.declared.board.Kind.TheVariants.{Slither}
use Rattle.hall_solve.specs.Puzzle.{question_of}
use Rattle.hall_solve.proofs.Boards.{set_keeps, IsPartial-set}
use Rattle.hall_slither.specs.Colour.{AreColoured}
use Rattle.hall_slither.proofs.AreColoured.{AreColoured-keeps}
use Rattle.hall_slither.proofs.follow.set_and_learn.Goals as goal
use Rattle.hall_slither.proofs.follow.set_and_learn.Goals.{After-set}

coloured_after : (c : After-set) → AreColoured c.args.position.now.puzzle.now c.set.new.self.places
    c.args.position.now.colours.now
coloured_after c =
    let now = c.args.position.now in
    let p = now.partial.now.places in
    rw c.set.ensures.places
    (AreColoured-keeps now.puzzle.now p (set p c.args.setting.side (Some c.args.setting.value)) now.colours.now
    (set_keeps p c.args.setting.side c.args.setting.value c.requires.side.1) now.coloured)

pub invariant_of-position : goal.invariant_of-position
invariant_of-position c =
    let now = c.args.position.now in
    record {
      kind = now.kind;
      fits = rw c.set.ensures.places
          (IsPartial-set (question_of Slither now.puzzle.now) now.partial.now.places c.args.setting.side
          c.args.setting.value c.requires.side.0 c.requires.value now.fits);
      coloured = coloured_after (goal.at.invariant_of-position c).After-set;
      centres = rw c.size.ensures.size at c.push_beside.ensures.centres;
    }

pub learn_side-requires-clause-coloured : goal.learn_side-requires-clause-coloured
learn_side-requires-clause-coloured c = coloured_after (goal.at.learn_side-requires-clause-coloured c).After-set

pub returns-in_err-push_beside-clause-dead : goal.returns-in_err-push_beside-clause-dead
returns-in_err-push_beside-clause-dead c = IfOk-from_err c.from_residual.result _ c.from_residual.ensures.0

pub returns-in_err-push_beside-clause-few : goal.returns-in_err-push_beside-clause-few
returns-in_err-push_beside-clause-few c = IfOk-from_err c.from_residual.result _ c.from_residual.ensures.0
