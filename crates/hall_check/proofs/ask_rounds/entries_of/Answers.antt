use Rattle.std.proofs.Common.{◌≡◌, ◌+◌, ◌++◌, true, false, ◌∷◌, [], length, sym, ap, ◌∙◌, arith, rules}
use Rattle.hall_store.specs.Maps.{places_from}
use Rattle.hall_policy.specs.declared.record.Entry.{Entry}
use Rattle.hall_check.proofs.RoundLists.{of_same, of_other, passed_on, kept_on, broken_off}
use Rattle.hall_check.proofs.ask_rounds.entries_of.Goals as goal

pub loop-place-preserved-then-not-is_same : goal.loop-place-preserved-then-not-is_same
loop-place-preserved-then-not-is_same c =
    let id = c.args.id.now in
    let place = c.place-item.result in
    passed_on id c.args.places.now c.loop-place.place-index place c.loop-place-test.true (sym c.place-item.is)
    (of_other id place c.is_same.result c.is_same.ensures c.if-not-is_same.true)
    ∙ c.loop-place.invariant

pub returns-then-not-is_next : goal.returns-then-not-is_next
returns-then-not-is_next c =
    let id = c.args.id.now in
    let place = c.place-item.result in
    broken_off id c.args.places.now c.loop-place.list.items c.loop-place.place-index place c.loop-place.invariant
    c.loop-place-test.true (sym c.place-item.is) (of_same id place c.is_same.result c.is_same.ensures
    c.if-not-is_same.false)
    (λ next. let on : c.is_next.result ≡ true = c.is_next.ensures.1
    (omega (arith, next, c.len.ensures, c.loop-place.list.ok.0)) in let no : true ≡ false = sym on
    ∙ c.if-not-is_next.true in cc)

pub loop-place-preserved : goal.loop-place-preserved
loop-place-preserved c =
    let id = c.args.id.now in
    let place = c.place-item.result in
    let next : place.0.number ≡ 1 + length c.loop-place.list.items = omega
    (arith, c.is_next.ensures.0 c.if-not-is_next.false, c.len.ensures, c.loop-place.list.ok.0) in
    let copy : c.in_ok-clone.field-0 ≡ place.1 = search rules in
    kept_on id c.args.places.now c.loop-place.list.items c.loop-place.place-index place c.loop-place.invariant
    c.loop-place-test.true (sym c.place-item.is) (of_same id place c.is_same.result c.is_same.ensures
    c.if-not-is_same.false) next
    ∙ ap (places_from id 1) (ap (λ (e : Entry). c.loop-place.list.items ++ e ∷ []) (sym copy)
    ∙ sym c.in_ok-push.ensures)
