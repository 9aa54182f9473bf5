use Rattle.std.proofs.Common.{◌∙◌, ◌++◌, ap, string_bytes}
use Rattle.std.proofs.lemmas.Result.{on_ok_weaker}
use Rattle.hall_tool.proofs.CheckLines.{search_gave_up, visits_told}
use Rattle.hall_tool.proofs.world_text.push_sane.Goals as goal

pub returns-in-Some-2 : goal.returns-in-Some-2
returns-in-Some-2 c =
    let checked = c.args.checked.now in
    let gave_up = search_gave_up checked c.is_sane.result c.requires c.is_sane.ensures c.if-is_sane.false in
    on_ok_weaker c.write.result
    (λ written. written ∙ ap (λ s. string_bytes c.args.text.now ++ s)
    (visits_told c.args.budget c.in-Some-2.visits checked c.in-Some-2.is gave_up))
    c.write.ensures.bytes
