use Rattle.std.proofs.Common.{◌≡◌, sym, ◌∙◌, ap, Bool, List, take, ℕ}
use Rattle.std.specs.List.{filter}
use Rattle.std.specs.Map.{values_of}
use Rattle.hall_policy.specs.declared.record.Person.{Person}
use Rattle.hall_policy.proofs.Orders.{text_total, same_texts}
use Rattle.hall_store.specs.Store.{is_after, people_at_once}
use Rattle.hall_store.proofs.MapWorlds.{entries_made}
use Rattle.hall_store.proofs.Ranges.{all_of_each, values_filtered}
use Rattle.hall_store.proofs.map_calls.MapStoreReadStore.people_after.Goals as goal

pub returns-clause-served : goal.returns-clause-served
returns-clause-served c =
    let read = c.in_ok-next_people.ensures in
    let es : List (List ℕ × Person) = c.args.self.now.people.entries in
    let by_key : List ℕ → Bool = is_after c.args.after.now in
    let by_name : Person → Bool = λ person. is_after c.args.after.now person.name in
    λ _. (
      tt,
      read.people ∙ ap (take people_at_once) (sym (ap (λ es. filter by_name (values_of es))
          (entries_made text_total same_texts es read.ordered) ∙ values_filtered by_key by_name es
          (all_of_each text_total (λ name person. by_key name ≡ by_name person) es read.ordered
          (λ name person found. ap by_key (sym (c.args.self.now.people_indexed name person found).own))))),
    )
