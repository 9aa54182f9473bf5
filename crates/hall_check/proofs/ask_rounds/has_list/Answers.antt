use Rattle.std.proofs.Common.{◌↔◌, ◌∙◌, IsTrue, ap, subst, option_map}
use Rattle.std.proofs.lemmas.Result.{IfOk-weaker}
use Rattle.std.specs.List.{filter}
use Rattle.hall_policy.specs.Lists.{AreEntries}
use Rattle.hall_check.specs.Asking.{CanAsk}
use Rattle.hall_check.specs.Sentences.{HasList, IsListTold}
use Rattle.hall_check.specs.Whole.{world_of_whole}
use Rattle.hall_check.proofs.RoundLists.{of, list_told, none_told}
use Rattle.hall_check.proofs.ask_rounds.has_list.Goals as goal

pub returns-in-Some : goal.returns-in-Some
returns-in-Some c =
    let whole = c.args.asking.now.whole.now in
    let id = c.args.id.now in
    let list = c.in-Some.list.items in
    IfOk-weaker c.are_entries.result (λ told. IsTrue told ↔ AreEntries list)
    (λ told. CanAsk c.args.asking.now → IsTrue told ↔ HasList (world_of_whole whole) id)
    (λ told is able. list_told (world_of_whole whole) id list told
    (ap (filter (of id)) able.0.places ∙ subst (λ found. IsListTold whole.places.items id
    (option_map (λ l. l.items) found)) c.in-Some.is (subst
    (λ places. IsListTold places id (option_map (λ l. l.items) c.in_ok-list.field-0)) c.deref.ensures.value
    c.in_ok-list.ensures)) is)
    c.are_entries.ensures

pub returns-in-None : goal.returns-in-None
returns-in-None c = λ able.
    let whole = c.args.asking.now.whole.now in
    let id = c.args.id.now in
    none_told whole able.0 id (subst (λ found. IsListTold whole.places.items id (option_map (λ l. l.items) found))
    c.in-None.is (subst (λ places. IsListTold places id (option_map (λ l. l.items) c.in_ok-list.field-0))
    c.deref.ensures.value c.in_ok-list.ensures))
