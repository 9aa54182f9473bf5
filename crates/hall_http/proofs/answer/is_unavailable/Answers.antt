use Rattle.std.proofs.Common.{◌≡◌, ◌≢◌, ◌∙◌, ◌++◌, ℕ, List, Bool, true, false, Some, None, nat_eq, sym}
use Rattle.std.specs.Bool.{Decides}
use Rattle.std.proofs.lemmas.List.{append_cancel_left}
use Rattle.std.proofs.lemmas.Bool.{eqb-true, eq-eqb}
use Rattle.std.proofs.lemmas.Slice.Eq.{bytes_eq-Decides, strip_prefix_is}
use Rattle.hall_http.specs.Answered.{answer_text}
use Rattle.hall_http.proofs.answer.is_unavailable.Goals as goal

decides : (a b : ℕ) → Decides (nat_eq a b) (a ≡ b)
decides a b = (eqb-true a b, eq-eqb a b)

pub returns-in-Some-clause-yes : goal.returns-in-Some-clause-yes
returns-in-Some-clause-yes c equal =
    let front = c.parts.result.0.now in
    let rest = c.parts.result.1.now in
    let split : c.unavailable_bytes.result.now ≡ front ++ c.in-Some.left.now =
    strip_prefix_is decides c.unavailable_bytes.result.now front (Some c.in-Some.left) c.in-Some.ensures.cases in
    let same : c.in-Some.left.now ≡ rest = (bytes_eq-Decides c.in-Some.left.now rest).0 (sym c.eq.ensures ∙ equal) in
    record { same = sym c.parts.ensures ∙ sym (rw same at split) ∙ c.unavailable_bytes.ensures }

pub returns-in-Some-clause-no : goal.returns-in-Some-clause-no
returns-in-Some-clause-no c unequal is =
    let front = c.parts.result.0.now in
    let rest = c.parts.result.1.now in
    let split : c.unavailable_bytes.result.now ≡ front ++ c.in-Some.left.now =
    strip_prefix_is decides c.unavailable_bytes.result.now front (Some c.in-Some.left) c.in-Some.ensures.cases in
    let whole : front ++ c.in-Some.left.now ≡ front ++ rest =
    sym split ∙ c.unavailable_bytes.ensures ∙ sym is.same ∙ sym c.parts.ensures in
    let same : c.in-Some.left.now ≡ rest = append_cancel_left front c.in-Some.left.now rest whole in
    let equal = (bytes_eq-Decides c.in-Some.left.now rest).1 same in
    let no : false ≡ true = sym unequal ∙ c.eq.ensures ∙ equal in
    absurd (cc)

pub returns-in-None-clause-no : goal.returns-in-None-clause-no
returns-in-None-clause-no c unequal is =
    let front = c.parts.result.0.now in
    let rest = c.parts.result.1.now in
    strip_prefix_is decides c.unavailable_bytes.result.now front None c.in-None.ensures.cases rest
    (c.unavailable_bytes.ensures ∙ sym is.same ∙ sym c.parts.ensures)
