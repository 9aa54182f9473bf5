use Rattle.hall_desk.proofs.FactsTold.{puzzle_read_told}
use Rattle.hall_desk.proofs.read_puzzle.ReadPuzzleHandler.decision.Goals as goal

pub returns-clause-told : goal.returns-clause-told
returns-clause-told g c =
    let read = c.in_ok-facts.ensures in
    let world = (g.S.ReadStore.content c.puzzle.new.self).world in (
      (λ h s. (read.served h).0),
      (λ h s. c.decide.ensures.decided world (puzzle_read_told world _ c.args.action.now c.args.self.now.key.now
          c.requires.same (read.served h).1)),
    )
