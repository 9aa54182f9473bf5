use Rattle.std.proofs.Common.{sym, ◌∙◌}
use Rattle.hall_policy.proofs.Orders.{puzzle_total}
use Rattle.hall_store.proofs.MapWorlds.{get_found}
use Rattle.hall_store.proofs.map_calls.MapStoreReadStore.puzzle.Goals as goal

pub returns-clause-served : goal.returns-clause-served
returns-clause-served c = λ _. (
  tt,
  c.in_ok-puzzle_at.ensures
      ∙ sym (get_found puzzle_total c.args.self.now.puzzles.entries c.args.key.now),
)
