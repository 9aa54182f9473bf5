use Rattle.std.proofs.Common.{◌≡◌, ◌∙◌, sym}
use Rattle.hall_policy.proofs.Reading.{of_kind_fails, of_kind_holds}
use Rattle.hall_sheet.proofs.words.checked.Goals as goal

pub returns-in-Some : goal.returns-in-Some
returns-in-Some g c =
    let some = rw c.in-Some.is at c.new.ensures.some in
    let whole : c.args.text.now ≡ c.in-Some.checked = sym (some.0 ∙ c.in_ok-owned.ensures.ok) in
    rw whole (of_kind_holds _ _ _ _ _ some.1)

pub returns-in-None : goal.returns-in-None
returns-in-None g c =
    let none = rw c.in-None.is at c.new.ensures.none in
    rw (sym c.in_ok-owned.ensures.ok) (of_kind_fails _ _ _ _ _ none)
