use Rattle.std.proofs.Common.{◌↔◌, List, IsTrue, Contains, subst}
use Rattle.hall_policy.specs.Rules.{Conflicts}
use Rattle.hall_policy.specs.declared.record.Person.{Person}
use Rattle.hall_desk.proofs.FactsTold.{import_told}
use Rattle.hall_desk.proofs.import.ImportHandler.decision.Goals as goal

pub returns-clause-told : goal.returns-clause-told
returns-clause-told g c =
    let conflict = c.in_ok-facts.ensures in
    let world = (g.S.ReadStore.content c.any_conflict.new.store).world in (
      (λ h s. conflict.told.0 h s),
      (λ h s. c.decide.ensures.decided world (import_told world _ c.args.action.now c.args.self.now.people.now
          c.requires.same
          (subst (λ (list : List Person). IsTrue c.in_ok-facts.field-0
          ↔ ((person : Person) × Contains list person × Conflicts world person)) c.as_slice.ensures.value
          (conflict.told.1 h s)))),
    )
