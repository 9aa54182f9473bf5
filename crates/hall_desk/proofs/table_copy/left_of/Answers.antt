use Rattle.std.proofs.Common.{rules, Bool, ◌∙◌, ap}
use Rattle.std.specs.List.{filter}
use Rattle.std.proofs.lemmas.Fn.{filter_same}
use Rattle.hall_desk.specs.TableCopy.{leaves_table}
use Rattle.hall_desk.specs.declared.table_copy.TableCopy.{TableCopy}
use Rattle.hall_desk.proofs.table_copy.left_of.Goals as goal

pub returns : goal.returns
returns c =
    let passes : TableCopy → Bool = λ copy. leaves_table c.args.change.now copy.round in
    c.new.ensures ∙ filter_same _ passes _ (λ x b f' k. search rules) _ _ c.retain.ensures.filtered
    ∙ ap (filter passes) c.into_vec-list.ensures
