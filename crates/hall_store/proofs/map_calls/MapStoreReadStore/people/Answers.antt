use Rattle.std.proofs.Common.{sym, ◌∙◌, ap, List, ℕ}
use Rattle.std.specs.Map.{values_of}
use Rattle.hall_policy.specs.declared.record.Person.{Person}
use Rattle.hall_policy.proofs.Orders.{text_total, same_texts}
use Rattle.hall_store.proofs.MapWorlds.{entries_made}
use Rattle.hall_store.proofs.map_calls.MapStoreReadStore.people.Goals as goal

pub returns-clause-served : goal.returns-clause-served
returns-clause-served c =
    let read = c.in_ok-all_people.ensures in
    let es : List (List ℕ × Person) = c.args.self.now.people.entries in
    λ _. (tt, read.people ∙ ap values_of (sym (entries_made text_total same_texts es read.ordered)))
