use Rattle.hall_policy.specs.Facts.{AreTrue}
use Rattle.hall_desk.specs.Plans.{IsMadePlan, IsImportPlan}
use Rattle.hall_desk.specs.Handler.{import_action}
use Rattle.hall_store.proofs.Knowing.{carried, told_turn}
use Rattle.hall_desk.proofs.Seeding.{import_plan}
use Rattle.hall_desk.proofs.import.ImportHandler.plan.Goals as goal

pub returns-clause-told : goal.returns-clause-told
returns-clause-told g c =
    let facts = c.args._facts.now in
    let imported = c.args.self.now in
    let people = imported.people.now in
    let old = g.S.ReadStore.content c.args.store.now in
    let new = g.S.ReadStore.content c.plan_import.new.store in
    told_turn c.plan_import.result (λ w plan. IsImportPlan w people plan)
    (λ w plan. IsMadePlan w facts.caller (import_action imported) c.args._t plan) old new
    (λ plan h s is. import_plan new.world facts c.args._t people plan
    (carried (λ w. AreTrue facts w (import_action imported)) old new c.plan_import.ensures.kept c.requires.told h s)
    c.requires.allowed.no_conflict is)
    c.plan_import.ensures.told
