use Rattle.std.proofs.Common.{◌≡◌, ◌∙◌, ◌++◌, ap, refl, string_bytes, ℕ, zero, suc, codes, decimal}
use Rattle.std.proofs.lemmas.Result.{on_ok_weaker}
use Rattle.hall_sql.specs.declared.tables.HallTable.{HallTable}
use Rattle.hall_tool.specs.BadText.{rest_line, table_name}
use Rattle.hall_tool.specs.JudgeText.{on_own_line}
use Rattle.hall_tool.proofs.bad_text.push_rest.Goals as goal

rest_told : (table : HallTable) (rest : ℕ) → (rest ≡ 0 → ⊥)
    → codes "broken: and " ++ (decimal rest ++ (codes " more rows are no record: " ++ on_own_line (table_name table)))
    ≡ rest_line table rest
rest_told table zero some = absurd (some refl)
rest_told table (suc rest) some = refl

pub returns : goal.returns
returns c =
    on_ok_weaker c.write.result
    (λ written. written ∙ ap (λ s. string_bytes c.args.text.now ++ s)
    (rest_told c.args.table c.args.rest (λ none. c.if-rest-eq0.false none)))
    (rw c.table_name-name.ensures at c.write.ensures.bytes)
