use Rattle.std.proofs.Common.{rules, ℕ}
use Rattle.std.proofs.lemmas.Bool.{eq-eqb}
use Rattle.std.proofs.Common.{tests}
use Rattle.std.proofs.lemmas.Iterator.{YieldsList-from_slice, YieldsList-from_zip}
use Rattle.std.proofs.lemmas.Iterator.Consumers.{YieldsList-at}
use Rattle.std.proofs.lemmas.Iterator.Search.{all_from_yields_List}
use Rattle.hall_sheet.specs.Start.{fits_mark}
use Rattle.hall_sheet.proofs.start.has_form.Goals as goal

pub returns-then-text-form : goal.returns-then-text-form
returns-then-text-form c =
    let pairs = YieldsList-from_zip {s = c.zip.result}
    (YieldsList-at c.zip.ensures.first (YieldsList-from_slice c.args.form.now c.iter.ensures.rest))
    (YieldsList-from_slice c.args.text.now c.zip.ensures.second.0) in
    let all = all_from_yields_List (λ (p : ℕ × ℕ). fits_mark p.0 p.1) c.all.new.self _ c.all.result c.all.ensures.ran
    pairs
    (λ x b q k. search (rules, tests)) in
    rw (eq-eqb _ _ c.if-text-form.true) all
