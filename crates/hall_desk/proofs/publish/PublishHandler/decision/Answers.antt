use Rattle.std.proofs.Common.{Some}
use Rattle.hall_policy.specs.Facts.{IsRoundFound}
use Rattle.hall_store.proofs.Knowing.{carried}
use Rattle.hall_desk.proofs.FactsTold.{ended_told, publish_told}
use Rattle.hall_desk.proofs.publish.PublishHandler.decision.Goals as goal

pub returns-in-Some-clause-told : goal.returns-in-Some-clause-told
returns-in-Some-clause-told g c =
    let read = c.in_ok-facts.ensures in
    let world = (g.S.ReadStore.content c.find_round.new.store).world in (
      (λ h s. (read.served h).0),
      (λ h s. c.in-Some.ensures.some world (ended_told world _ c.args.action.now c.args.self.now.round.now
          c.requires.same (read.served h).1.row)),
    )

pub returns-clause-told : goal.returns-clause-told
returns-clause-told g c =
    let read = c.in_ok-facts.ensures in
    let looked = c.in_ok-facts-2.ensures in
    let first = g.S.ReadStore.content c.find_round.new.store in
    let last = g.S.ReadStore.content c.has_open_protest.new.self in
    let id = c.args.self.now.round.now in (
      (λ h s. (looked.served h).0),
      (λ h s. c.decide.ensures.decided last.world (publish_told last.world _ c.args.action.now id c.requires.same
          (carried (λ w. IsRoundFound w (Some id) c.in_ok-facts.field-0) first last looked.kept
          (λ h0 s0. (read.served h0).1.row) h s) (looked.served h).1)),
    )
