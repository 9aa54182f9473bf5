use Rattle.hall_desk.proofs.FactsTold.{protests_list_told}
use Rattle.hall_desk.proofs.protests.ProtestsHandler.decision.Goals as goal

pub returns-clause-told : goal.returns-clause-told
returns-clause-told g c =
    let read = c.in_ok-facts.ensures in
    let world = (g.S.ReadStore.content c.find_round.new.store).world in (
      (λ h s. (read.served h).0),
      (λ h s. c.decide.ensures.decided world (protests_list_told world _ c.args.action.now c.args.self.now.round.now
          c.requires.same (read.served h).1.row)),
    )
