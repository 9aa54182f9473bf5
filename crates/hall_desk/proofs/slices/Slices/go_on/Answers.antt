use Rattle.std.proofs.Common.{IsTrue, List, ℕ, Contains, sym, subst}
use Rattle.hall_policy.specs.declared.record.Person.{Person}
use Rattle.hall_store.specs.Store.{is_after}
use Rattle.hall_desk.proofs.Slicing.{later_name}
use Rattle.hall_desk.proofs.slices.Slices.go_on.Goals as goal

pub up_to-requires : goal.up_to-requires
up_to-requires g c = λ h s.
    let person : Person = c.in-Some.person.now in
    let (within, at) = c.in-Some.ensures.lookup.3 in
    let among : Contains c.in_ok-people.people.items person = subst (λ (l : List Person). Contains l person)
    c.deref.ensures.value (199, within, sym (at person)) in
    subst (λ (name : List ℕ). IsTrue (is_after c.args.self.after name)) (sym c.in_ok-clone-in-Some.ensures.cases)
    (later_name (g.S.ReadStore.content c.people_after.new.self).world c.args.self.after c.in_ok-people.people.items
    person (c.in_ok-people.ensures.served h).1 among)
