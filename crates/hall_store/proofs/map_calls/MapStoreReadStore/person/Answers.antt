use Rattle.std.proofs.Common.{sym, ◌∙◌}
use Rattle.hall_policy.proofs.Orders.{text_total}
use Rattle.hall_store.proofs.MapWorlds.{get_found}
use Rattle.hall_store.proofs.map_calls.MapStoreReadStore.person.Goals as goal

pub returns-clause-served : goal.returns-clause-served
returns-clause-served c = λ _. (
  tt,
  c.in_ok-person_at.ensures
      ∙ sym (get_found text_total c.args.self.now.people.entries c.args.name.now),
)
