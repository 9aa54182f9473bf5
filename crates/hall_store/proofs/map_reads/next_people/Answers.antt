use Rattle.std.proofs.Common.{◌≡◌, ◌∙◌, ◌++◌, ◌∷◌, [], ◌+◌, ◌-◌, ◌<◌, ◌≤◌, suc, List, length, take, ap, sym}
use Rattle.std.proofs.Common.{append_assoc, arith, rules}
use Rattle.std.proofs.Math.Seq.{take-nil}
use Rattle.std.specs.Map.{values_of}
use Rattle.std.proofs.lemmas.List.{append-nil, length-append}
use Rattle.hall_policy.specs.declared.record.Person.{Person}
use Rattle.hall_store.specs.Store.{people_at_once}
use Rattle.hall_store.proofs.map_reads.next_people.Goals as goal
use Rattle.hall_store.proofs.map_reads.next_people.Goals.{in-None-2, in-Some-2+then-len-ge-PEOPLE_AT_ONCE}

-- one more of the rest stands at the end
moved : (all old new left rest : List Person) (row : Person) → all ≡ old ++ take (people_at_once - length old) left
    → left ≡ row ∷ rest → new ≡ old ++ row ∷ [] → length old < people_at_once
    → all ≡ new ++ take (people_at_once - length new) rest
moved all old new left rest row whole is grown few =
    let long : length new ≡ length old + 1 = ap length grown ∙ length-append old (row ∷ []) in
    let size : people_at_once - length old ≡ suc (people_at_once - length new) = omega (arith, long, few) in
    whole ∙ ap (λ (xs : List Person). old ++ take (people_at_once - length old) xs) is
    ∙ ap (λ n. old ++ take n (row ∷ rest)) size
    ∙ sym (append_assoc old (row ∷ []) (take (people_at_once - length new) rest))
    ∙ ap (λ (xs : List Person). xs ++ take (people_at_once - length new) rest) (sym grown)

-- none is left, or there are as many as may be
ended : (all some left : List Person) → all ≡ some ++ take (people_at_once - length some) left → left ≡ []
    → some ≡ all
ended all some left whole is =
    sym (whole ∙ ap (λ (xs : List Person). some ++ take (people_at_once - length some) xs) is
    ∙ ap (λ (xs : List Person). some ++ xs) (take-nil (people_at_once - length some)) ∙ append-nil some)

filled : (all some left : List Person) → all ≡ some ++ take (people_at_once - length some) left
    → people_at_once ≤ length some → some ≡ all
filled all some left whole full =
    let none : people_at_once - length some ≡ 0 = omega (arith, full) in
    sym (whole ∙ ap (λ n. some ++ take n left) none ∙ append-nil some)

pub loop-person-preserved : goal.loop-person-preserved
loop-person-preserved c =
    let old : List Person = c.loop-person.next.items in
    let row : Person = c.in-Some-2.person.now in
    let cloned : c.in_ok-clone.field-0 ≡ row = search rules in
    let few : length old < people_at_once = search rules in
    moved _ old c.push.new.items.items (values_of c.loop-person.person-iterator) (values_of c.next.new.self) row
    c.loop-person.invariant (ap values_of c.in-Some-2.ensures.steps)
    (c.in_ok-push.ensures ∙ ap (λ (r : Person). old ++ r ∷ []) cloned) few

pub returns-clause-people : goal.returns-clause-people
returns-clause-people c =
    let some : List Person = c.loop-person.next.items in
    elim c.match-next.branch [
      | in-None-2 w ↦ ended _ some (values_of c.loop-person.person-iterator) c.loop-person.invariant
          (ap values_of w.in-None-2.ensures.steps.0)
      | in-Some-2+then-len-ge-PEOPLE_AT_ONCE w ↦
          let full : people_at_once ≤ length some = search rules in
          filled _ some (values_of c.loop-person.person-iterator) c.loop-person.invariant full
    ]
