use Rattle.std.proofs.Common.{◌∙◌, sym, rules, tests, Global, String}
use Rattle.std.specs.Prelude.{string_bytes}
use Rattle.std.specs.List.{list_any}
use Rattle.std.specs.Str.{bytes_eq}
use Rattle.std.proofs.lemmas.Iterator.Consumers.{YieldsList-from_rest}
use Rattle.std.proofs.lemmas.Iterator.Search.{all_from_yields_List}
use Rattle.hall_sheet.specs.Fault.{field_name}
use Rattle.hall_sheet.proofs.Fields.{only_listed}
use Rattle.hall_sheet.proofs.table.has_only.Goals as goal

pub returns : goal.returns
returns c =
    let all = all_from_yields_List
    (λ (k : String Global). list_any (λ f. bytes_eq (field_name f) (string_bytes k)) c.args.fields.now)
    c.all.new.self _ c.all.result c.all.ensures.ran (YieldsList-from_rest _ c.keys.ensures.rest)
    (λ x b q k. search (rules, tests)) in
    all ∙ sym (only_listed c.args.fields.now c.args.table.now.entries)
