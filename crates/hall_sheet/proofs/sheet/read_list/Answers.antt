use Rattle.std.proofs.Common.{◌≡◌, ◌≢◌, ◌∙◌, sym, arith, length, map, vec_len}
use Rattle.std.proofs.lemmas.Bool.{eqb-false}
use Rattle.std.proofs.lemmas.List.{length-map}
use Rattle.toml.specs.View.{table_view}
use Rattle.hall_sheet.proofs.Entries.{are_entries}
use Rattle.hall_sheet.proofs.sheet.read_list.Goals as goal

pub returns : goal.returns
returns c =
    let tables = map (λ t. table_view t.now) c.as_slice.result.now in
    let long : length tables ≡ vec_len c.in_ok-tables.tables =
    length-map c.as_slice.result.now (λ t. table_view t.now) ∙ c.as_slice.ensures.len in
    let some : vec_len c.in_ok-tables.tables ≢ 0 = eqb-false _ _ (sym c.is_empty.ensures ∙ c.if-is_empty.false) in
    absurd ((rw c.in-None.is at c.in_ok-list.ensures.none) (are_entries tables c.in_ok-entries.entries.items
    c.in_ok-entries.ensures
    (omega (arith, long, some)) (omega (arith, long, c.len.ensures, c.if-len-gt-MOST_ENTRIES.false))))
