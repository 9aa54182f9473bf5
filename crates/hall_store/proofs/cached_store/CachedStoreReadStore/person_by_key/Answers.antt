use Rattle.hall_store.specs.Caller.{IsKeyHolder}
use Rattle.hall_store.proofs.Agrees.{read_agrees, looked_agrees, found_stands, noted_person}
use Rattle.hall_store.proofs.cached_store.CachedStoreReadStore.person_by_key.Goals as goal

pub invariant_of-self : goal.invariant_of-self
invariant_of-self g c = looked_agrees (g.S.ReadStore.content c.self.inside.store) c.self.inside.cache c.person.new.self
    c.self.invariant c.person.ensures.kept

pub returns-in-Some-clause-served : goal.returns-in-Some-clause-served
returns-in-Some-clause-served g c = c.self.invariant.people c.args.key.now c.in-Some.person c.in-Some.ensures.found

pub invariant_of-self-in_default-found : goal.invariant_of-self-in_default-found
invariant_of-self-in_default-found g c =
    let looked = looked_agrees (g.S.ReadStore.content c.self.inside.store) c.self.inside.cache c.person.new.self
    c.self.invariant c.person.ensures.kept in
    read_agrees c.person_by_key-told.result (g.S.ReadStore.content c.self.inside.store)
    (g.S.ReadStore.content c.person_by_key-told.new.self) c.person.new.self c.forget_if_refused.new.self _
    looked c.person_by_key-told.ensures.kept c.person_by_key-told.ensures.served c.forget_if_refused.ensures.kept
    c.forget_if_refused.ensures.forgot

pub invariant_of-self-in-Some-found : goal.invariant_of-self-in-Some-found
invariant_of-self-in-Some-found g c =
    let looked = looked_agrees (g.S.ReadStore.content c.self.inside.store) c.self.inside.cache c.person.new.self
    c.self.invariant c.person.ensures.kept in
    let settled = read_agrees c.person_by_key-told.result (g.S.ReadStore.content c.self.inside.store)
    (g.S.ReadStore.content c.person_by_key-told.new.self) c.person.new.self c.forget_if_refused.new.self _
    looked c.person_by_key-told.ensures.kept c.person_by_key-told.ensures.served c.forget_if_refused.ensures.kept
    c.forget_if_refused.ensures.forgot in
    noted_person (g.S.ReadStore.content c.person_by_key-told.new.self) c.forget_if_refused.new.self
    c.keep_person.new.self settled c.args.key.now c.in-Some-found.person
    c.keep_person.ensures.people c.keep_person.ensures.few c.keep_person.ensures.rounds c.keep_person.ensures.puzzles
    (found_stands c.person_by_key-told.result c.in_ok-found.found c.in-Some-found.person
    (g.S.ReadStore.content c.person_by_key-told.new.self) (λ world found. IsKeyHolder world c.args.key.now found)
    c.in_ok-found.was c.in-Some-found.is c.person_by_key-told.ensures.served)
