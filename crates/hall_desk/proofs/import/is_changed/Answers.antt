use Rattle.std.proofs.Common.{◌≡◌, ◌≢◌, ◌⊎◌, Some, sym, ◌∙◌, subst}
use Rattle.std.specs.FinMap.{get}
use Rattle.hall_policy.specs.declared.record.Person.{Person}
use Rattle.hall_desk.proofs.import.is_changed.Goals as goal

pub returns-in-Some-clause-served : goal.returns-in-Some-clause-served
returns-in-Some-clause-served g c =
    let read = c.in_ok-known.ensures in
    let world = (g.S.ReadStore.content c.person.new.self).world in
    let person = c.args.person.now in
    let known = c.in-Some.known in
    λ h. (
      (read.served h).0,
      (
          let at : get world.people person.name ≡ Some known = sym (read.served h).1 ∙ c.in-Some.is in (
            (λ differs. (known, at, c.differs.ensures.0 differs)),
            (λ other.
                let both : Some other.0 ≡ Some known = sym other.1 ∙ at in
                let one : other.0 ≡ known = cc in
                c.differs.ensures.1 (subst (λ (p : Person). (p.key ≢ person.key) ⊎ (p.roles ≢ person.roles)) one
                other.2)),
          )),
    )
