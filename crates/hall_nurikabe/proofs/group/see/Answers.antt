use Rattle.std.proofs.Common.{◌≡◌, ℕ, ◌++◌, [], ◌∷◌, true, false, None, Some, length, get_or, set, sym, ◌∙◌, subst}
use Rattle.std.proofs.Common.{arith, rules}
use Rattle.std.specs.Prelude.{Contains}
use Rattle.hall_nurikabe.specs.Forced.{IsSetTo}
use Rattle.hall_nurikabe.specs.Group.{Sees}
use Rattle.hall_nurikabe.proofs.IsFound.{Sees-none, Sees-push}
use Rattle.hall_nurikabe.proofs.group.see.Goals as goal
use Rattle.hall_nurikabe.proofs.group.see.Goals.{else-there-value-via-then-there-value+else-not-has}
use Rattle.hall_nurikabe.proofs.group.see.Goals.{else-there-value-via-else-there-value}

pub returns-in_ok-push : goal.returns-in_ok-push
returns-in_ok-push c =
    let size = c.args.position.now.puzzle.now.size in
    let places = c.args.position.now.partial.now.places in
    let list = c.args.group.now.cells.items in
    let exits = c.args.group.now.exits in
    let set_here : IsSetTo places c.args.value c.args.cell = search rules in
    let fresh : c.has.result ≡ false = c.if-not-has.true in
    let many : length list ≡ c.args.group.now.cells.len = omega (arith, c.args.group.now.cells.ok.0) in
    rw c.in_ok-push.ensures.items
    (subst (λ (n : ℕ). Sees size places c.args.value (λ x. x ≡ c.args.cell)
    (set c.args.group.now.places.items c.args.cell n) list
    (list ++ c.args.cell ∷ []) exits exits) (many ∙ sym c.len-place.ensures)
    (Sees-push size places c.args.value c.args.group.now.places.items list exits c.requires.found c.args.cell
    c.requires.cell set_here
    (λ m. let yes : c.has.result ≡ true = c.has.ensures.1 (rw c.deref.ensures.value m) in let clash : false ≡ true = sym
    fresh ∙ yes in absurd (cc))
    c.requires.near))

pub returns-else-there-value : goal.returns-else-there-value
returns-else-there-value c =
    let at : get_or c.args.position.now.partial.now.places c.args.cell None ≡ Some c.in-Some.there = search rules in
    Sees-none c.args.position.now.puzzle.now.size c.args.position.now.partial.now.places c.args.value
    c.args.group.now.places.items
    c.args.group.now.cells.items c.args.group.now.exits c.requires.found (λ x. x ≡ c.args.cell)
    (λ x low e. (
      (λ h. elim c.else-there-value.branch [
        | else-there-value-via-then-there-value+else-not-has w ↦ subst (λ y. Contains c.args.group.now.cells.items y)
            (sym e)
            (rw w.deref.ensures.value at (w.has.ensures.0 w.if-not-has.false))
        | else-there-value-via-else-there-value w ↦
            let there : get_or c.args.position.now.partial.now.places c.args.cell None ≡ Some c.args.value =
            subst (λ y. get_or c.args.position.now.partial.now.places y None ≡ Some c.args.value) e h in
            let both : Some c.in-Some.there ≡ Some c.args.value = sym at ∙ there in
            let same : c.in-Some.there ≡ c.args.value = cc in
            absurd (grind (arith, w.if-there-value.false, same))
      ]),
      (λ none.
          let here : get_or c.args.position.now.partial.now.places c.args.cell None ≡ None =
          subst (λ y. get_or c.args.position.now.partial.now.places y None ≡ None) e none in
          let clash : None ≡ Some c.in-Some.there = sym here ∙ at in
          absurd (cc)),
    ))
