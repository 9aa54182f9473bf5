use Rattle.std.proofs.Common.{◌≡◌, ◌≤◌, ◌∙◌, sym, ap, arith, length, map, List, ℕ, Ok}
use Rattle.std.specs.Borrow.{Bor}
use Rattle.std.proofs.lemmas.List.{length-map}
use Rattle.toml.specs.View.{table_view}
use Rattle.hall_policy.specs.Limits.{most_testers}
use Rattle.hall_sheet.proofs.Testers.{testers_are, tester_repeated}
use Rattle.hall_sheet.proofs.sheet.read_named_testers.Goals as goal

abbrev texts_of : List (Bor (List ℕ)) → List (List ℕ)
texts_of = map (λ t. t.now)

few : (texts : List (Bor (List ℕ))) (n m : ℕ) → length texts ≡ n → m ≡ n → m ≤ most_testers
    → length (texts_of texts) ≤ most_testers
few texts n m long same most = omega (arith, length-map texts (λ t. t.now), long, same, most)

pub returns-in-Some : goal.returns-in-Some
returns-in-Some c =
    let (is, valid) = c.in-Some.ensures.some in
    testers_are (table_view c.args.document.now) (texts_of c.in_ok-texts.texts.items) c.in-Some.testers
    c.in_ok-texts.ensures (few c.in_ok-texts.texts.items _ c.len.result
    (rw c.as_slice.ensures.value at c.as_slice.ensures.len) c.len.ensures c.if-len-gt-MOST_TESTERS.false)
    (rw c.as_slice.ensures.value at c.in_ok-names.ensures ∙ ap Ok (sym is)) valid

pub returns : goal.returns
returns c =
    tester_repeated (table_view c.args.document.now) (texts_of c.in_ok-texts.texts.items) c.in_ok-names.names.items
    c.in_ok-texts.ensures (few c.in_ok-texts.texts.items _ c.len.result
    (rw c.as_slice.ensures.value at c.as_slice.ensures.len) c.len.ensures c.if-len-gt-MOST_TESTERS.false)
    (rw c.as_slice.ensures.value at c.in_ok-names.ensures) c.in-None.ensures.none
