use Rattle.std.proofs.lemmas.Result.{IfOk-from_err}
use Rattle.std.proofs.Common.{◌≡◌, ◌+◌, true, false, ◌∷◌, drop, is_some, sym, ap, ◌∙◌, arith, rules}
use Rattle.std.specs.Map.{lookup}
use Rattle.std.specs.BTreeMap.{is_at}
use Rattle.std.specs.FinMap.{from_entries}
use Rattle.std.proofs.lemmas.List.{drop_more}
use Rattle.hall_policy.specs.Text.{text_cmp}
use Rattle.hall_policy.specs.declared.record.Person.{Person}
use Rattle.hall_store.specs.Change.{with_person, with_people}
use Rattle.hall_store.proofs.Imports.{one_added, one_known}
use Rattle.hall_store.proofs.map_adds.with_people.Goals as goal
use Rattle.hall_store.proofs.map_adds.with_people.Goals.{then-not-contains_key+in_ok-clone+in_ok-put_person}
use Rattle.hall_store.proofs.map_adds.with_people.Goals.{else-not-contains_key}

pub loop-person-preserved : goal.loop-person-preserved
loop-person-preserved c =
    let list = c.args.list.now in
    let at = c.loop-person.person-index in
    let item = c.person-item.result in
    let es = c.loop-person.people.entries in
    let fs = c.if-not-contains_key.people.entries in
    let rest = drop (at + 1) list in
    let next : drop at list ≡ item ∷ rest = drop_more list at item (omega (arith, c.loop-person-test.true))
    ∙ ap (λ (p : Person). p ∷ rest) (sym c.person-item.is) in
    let step : from_entries fs ≡ with_person (from_entries es) item = elim c.if-not-contains_key.branch [
      | then-not-contains_key+in_ok-clone+in_ok-put_person w ↦
          let copy = w.in_ok-clone.field-0 in
          let cloned : copy ≡ item = search rules in
          let unknown : is_some (lookup (is_at (text_cmp item.name)) es) ≡ false = search rules in
          ap (λ m. from_entries m.entries) w.people-is
          ∙ one_added es copy w.put_person.new.people.entries
          (ap (λ (p : Person). is_some (lookup (is_at (text_cmp p.name)) es)) cloned ∙ unknown)
          w.in_ok-put_person.ensures.ok.0
          ∙ ap (with_person (from_entries es)) cloned
      | else-not-contains_key w ↦
          let known : is_some (lookup (is_at (text_cmp item.name)) es) ≡ true = search rules in
          ap (λ m. from_entries m.entries) w.people-is ∙ one_known es item known
    ] in
    ap (λ m. with_people m rest) step ∙ ap (with_people (from_entries es)) (sym next) ∙ c.loop-person.invariant

pub returns-in_err-people : goal.returns-in_err-people
returns-in_err-people c = IfOk-from_err c.from_residual.result _ c.from_residual.ensures.0

pub returns-in_err-clone : goal.returns-in_err-clone
returns-in_err-clone c = IfOk-from_err c.from_residual-in_err-clone.result _ c.from_residual-in_err-clone.ensures.0

pub returns-in_err-put_person : goal.returns-in_err-put_person
returns-in_err-put_person c = IfOk-from_err c.from_residual-in_err-put_person.result _
    c.from_residual-in_err-put_person.ensures.0
