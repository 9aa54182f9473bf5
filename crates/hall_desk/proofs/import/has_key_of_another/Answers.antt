use Rattle.std.proofs.Common.{◌≡◌, Option, Some, IfSome, true, false, not, sym, ap, ◌∙◌, subst}
use Rattle.std.specs.FinMap.{get, values}
use Rattle.hall_policy.specs.World.{same_text}
use Rattle.hall_policy.specs.declared.record.Person.{Person}
use Rattle.hall_store.proofs.Tests.{not_true}
use Rattle.hall_desk.proofs.Answering.{find-Contains}
use Rattle.hall_policy.proofs.Texts.{text_decides}
use Rattle.hall_desk.proofs.import.has_key_of_another.Goals as goal

pub returns-in-Some-clause-served : goal.returns-in-Some-clause-served
returns-in-Some-clause-served g c =
    let read = c.in_ok-known.ensures in
    let world = (g.S.ReadStore.content c.person_by_key.new.self).world in
    let person = c.args.person.now in
    let known = c.in-Some.known in
    λ h. (
      (read.served h).0,
      (
          let holder = (read.served h).1 in
          let there : get world.people known.name ≡ Some known =
          subst (λ (found : Option Person). IfSome found (λ p. get world.people p.name ≡ Some p)) c.in-Some.is
          holder.there in
          let own = find-Contains (λ (p : Person). same_text p.key person.key) (values world.people) known
          (sym holder.found ∙ c.in-Some.is) in (
            (λ differs. (
              known.name,
              known,
              there,
              (λ same. let no : false ≡ true = ap not (sym (c.is_same.ensures.1 same)) ∙ differs in absurd (cc)),
              (text_decides known.key person.key).0 own.2,
            )),
            (λ other.
                let both : Some known ≡ Some other.1 = sym c.in-Some.is
                ∙ holder.alone other.0 other.1 other.2 other.4 in
                let one : known ≡ other.1 = cc in
                let named : known.name ≡ other.0 = ap (λ (p : Person). p.name) one
                ∙ holder.own other.0 other.1 other.2 other.4 in
                ap not (not_true c.is_same.result (λ same. other.3 (sym named ∙ c.is_same.ensures.0 same)))),
          )),
    )
