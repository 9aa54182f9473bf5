use Rattle.std.proofs.Common.{sym, ◌∙◌}
use Rattle.hall_store.proofs.RoundWorlds.{heads_listed}
use Rattle.hall_store.proofs.map_calls.MapStoreReadStore.rounds.Goals as goal

pub returns-clause-served : goal.returns-clause-served
returns-clause-served c =
    let read = c.in_ok-heads.ensures in
    λ _. (tt, read.heads ∙ sym (heads_listed c.args.self.now.rounds.entries read.ordered))
