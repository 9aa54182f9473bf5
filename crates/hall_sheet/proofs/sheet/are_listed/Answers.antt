use Rattle.std.proofs.Common.{◌∙◌, sym, rules, tests}
use Rattle.std.proofs.lemmas.Iterator.{YieldsList-from_slice}
use Rattle.std.proofs.lemmas.Iterator.Search.{all_from_yields_List}
use Rattle.toml.specs.View.{table_view}
use Rattle.hall_sheet.specs.Table.{has_only}
use Rattle.hall_sheet.specs.Sheet.{entry_fields}
use Rattle.hall_sheet.proofs.Listing.{listed_by}
use Rattle.hall_sheet.proofs.sheet.are_listed.Goals as goal

pub returns-in-Ok : goal.returns-in-Ok
returns-in-Ok c =
    let all = all_from_yields_List (λ t. has_only entry_fields (table_view t.now)) c.all.new.self _ c.all.result
    c.all.ensures.ran (YieldsList-from_slice c.in-Ok.tables.items (c.iter.ensures.rest ∙ c.deref.ensures.value))
    (λ x b q k. search (rules, tests)) in
    listed_by (λ t. table_view t.now) (table_view c.args.document.now) c.in-Ok.tables.items c.all.result
    (rw c.in_ok-version_or_first.ensures at (sym c.has_keys.ensures ∙ c.if-not-has_keys.false)) c.in-Ok.ensures all
