use Rattle.std.proofs.Common.{◌≡◌, ◌∙◌, sym}
use Rattle.hall_policy.proofs.Reading.{of_kind_fails, of_kind_holds}
use Rattle.hall_http.proofs.Texts.{kind_ascii}
use Rattle.hall_http.proofs.words.checked.Goals as goal

pub returns-in_default : goal.returns-in_default
returns-in_default g c =
    let bad = rw c.in_default.is at c.from_utf8.ensures.cases in
    of_kind_fails _ _ _ _ _ (λ h. bad.0 (kind_ascii _ _ _ _ c.requires h))

pub returns-in-Some : goal.returns-in-Some
returns-in-Some g c =
    let text = rw c.in-Ok.is at c.from_utf8.ensures.cases in
    let some = rw c.in-Some.is at c.new.ensures.some in
    let whole : c.args.text.now ≡ c.in-Some.checked = sym (some.0 ∙ c.in_ok-owned.ensures.ok ∙ text.0) in
    rw whole (of_kind_holds _ _ _ _ _ some.1)
