use Rattle.hall_desk.proofs.FactsTold.{certify_told}
use Rattle.hall_desk.proofs.certify_puzzle.CertifyHandler.decision.Goals as goal

pub returns-clause-told : goal.returns-clause-told
returns-clause-told g c =
    let read = c.in_ok-facts.ensures in
    let world = (g.S.ReadStore.content c.puzzle.new.self).world in
    let certified = c.args.self.now in (
      (λ h s. (read.served h).0),
      (λ h s. c.decide.ensures.decided world (certify_told world _ c.args.action.now certified.key.now certified.budget
          c.requires.same (read.served h).1)),
    )
