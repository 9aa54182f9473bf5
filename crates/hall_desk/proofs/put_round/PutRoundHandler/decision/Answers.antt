use Rattle.std.proofs.Common.{◌↔◌, IsTrue}
use Rattle.hall_policy.specs.World.{World}
use Rattle.hall_policy.specs.Rules.{SheetLacks}
use Rattle.hall_store.proofs.Knowing.{carried}
use Rattle.hall_desk.proofs.FactsTold.{sheet_told, replaced_told}
use Rattle.hall_desk.proofs.put_round.PutRoundHandler.decision.Goals as goal

pub returns-in-Some-clause-told : goal.returns-in-Some-clause-told
returns-in-Some-clause-told g c =
    let lacks = c.in_ok-facts.ensures in
    let world = (g.S.ReadStore.content c.any_lacking.new.store).world in
    let put = c.args.self.now in (
      (λ h s. lacks.told.0 h s),
      (λ h s. c.in-Some.ensures.some world (sheet_told world _ c.args.action.now put.round.now put.sheet.now
          c.requires.same (lacks.told.1 h s))),
    )

pub returns-clause-told : goal.returns-clause-told
returns-clause-told g c =
    let lacks = c.in_ok-facts.ensures in
    let read = c.in_ok-facts-2.ensures in
    let first = g.S.ReadStore.content c.any_lacking.new.store in
    let last = g.S.ReadStore.content c.find_round.new.store in
    let put = c.args.self.now in
    let lacking : World → Type 0 = λ w. IsTrue c.in_ok-facts.field-0 ↔ SheetLacks w put.sheet.now in (
      (λ h s. (read.served h).0),
      (λ h s. c.decide.ensures.decided last.world (replaced_told last.world _ c.args.action.now put.round.now
          put.sheet.now c.requires.same
          (carried lacking first last read.kept lacks.told.1 h s)
          (read.served h).1.row)),
    )
