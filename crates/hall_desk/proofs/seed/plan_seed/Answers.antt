use Rattle.std.proofs.Common.{◌↔◌, List, IsTrue, Contains, sym, ◌∙◌, subst}
use Rattle.std.proofs.lemmas.Bool.{false≢true}
use Rattle.hall_policy.specs.World.{World}
use Rattle.hall_policy.specs.Rules.{Conflicts}
use Rattle.hall_policy.specs.declared.record.Person.{Person}
use Rattle.hall_store.proofs.Knowing.{carried, told_through}
use Rattle.hall_desk.specs.Plans.{IsImportPlan, IsSeedPlan}
use Rattle.hall_desk.proofs.Seeding.{seed_plan}
use Rattle.hall_desk.proofs.seed.plan_seed.Goals as goal

pub returns-clause-told : goal.returns-clause-told
returns-clause-told g c =
    let conflict = c.in_ok-any_conflict.ensures in
    let people = c.args.people.now in
    let old = g.S.ReadStore.content c.args.store.now in
    let mid = g.S.ReadStore.content c.any_conflict.new.store in
    let new = g.S.ReadStore.content c.plan_import.new.store in
    let conflicting : List Person → World → Type 0 = λ list w. IsTrue c.in_ok-any_conflict.field-0
    ↔ ((person : Person) × Contains list person × Conflicts w person) in
    told_through c.plan_import.result (λ w plan. IsImportPlan w people plan) (λ w plan. IsSeedPlan w people plan) old
    mid new c.plan_import.ensures.kept conflict.told.0
    (λ plan h s is. seed_plan new.world people plan
    (λ found. false≢true (sym c.if-branch.false
    ∙ (subst (λ (list : List Person). conflicting list new.world) c.as_slice.ensures.value
    (carried (conflicting c.as_slice.result.now) mid new c.plan_import.ensures.kept conflict.told.1 h s)).1 found))
    is)
    c.plan_import.ensures.told
