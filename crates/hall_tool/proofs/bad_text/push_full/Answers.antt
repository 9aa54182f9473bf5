use Rattle.std.proofs.Common.{◌≡◌, ◌∙◌, ◌++◌, Bool, true, false, true≢false, ap, sym, rules, refl, string_bytes, codes}
use Rattle.std.proofs.lemmas.Result.{on_ok_weaker}
use Rattle.hall_sql.specs.declared.tables.HallTable.{HallTable}
use Rattle.hall_tool.specs.BadText.{full_line, table_name}
use Rattle.hall_tool.proofs.bad_text.push_full.Goals as goal

full_told : (table : HallTable) (full : Bool) → full ≡ true
    → codes "broken: no row can be added after this one: " ++ (table_name table ++ codes " rowid=9223372036854775807\n")
    ≡ full_line table full
full_told table true is = refl
full_told table false is = absurd (true≢false (sym is))

pub returns : goal.returns
returns c =
    let is : c.args.is_full ≡ true = search rules in
    on_ok_weaker c.write.result
    (λ written. written ∙ ap (λ s. string_bytes c.args.text.now ++ s) (full_told c.args.table c.args.is_full is))
    (rw c.table_name-name.ensures at c.write.ensures.bytes)
