use Rattle.hall_desk.proofs.FactsTold.{puzzles_list_told}
use Rattle.hall_desk.proofs.list_puzzles.ListPuzzlesHandler.decision.Goals as goal

pub returns-clause-told : goal.returns-clause-told
returns-clause-told g c =
    let world = (g.S.ReadStore.content c.args._store.now).world in
    ((λ h s. s), (λ h s. c.decide.ensures.decided world (puzzles_list_told world _ c.args.action.now c.requires.same)))
