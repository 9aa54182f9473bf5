use Rattle.std.proofs.Common.{sym, ◌∙◌}
use Rattle.hall_policy.proofs.Orders.{protest_total}
use Rattle.hall_store.proofs.MapWorlds.{get_found}
use Rattle.hall_store.proofs.map_calls.MapStoreReadStore.protest.Goals as goal

pub returns-clause-served : goal.returns-clause-served
returns-clause-served c = λ _. (
  tt,
  c.in_ok-protest_at.ensures
      ∙ sym (get_found protest_total c.args.self.now.protests.entries c.args.key.now),
)
