use Rattle.std.proofs.Common.{sym, ◌∙◌, ap, List}
use Rattle.std.specs.List.{filter}
use Rattle.std.specs.Map.{values_of}
use Rattle.hall_policy.specs.declared.record.ProtestKey.{ProtestKey}
use Rattle.hall_policy.specs.declared.record.ProtestRow.{ProtestRow}
use Rattle.hall_policy.proofs.Orders.{protest_total, same_protest_keys}
use Rattle.hall_store.specs.Store.{is_protest_of}
use Rattle.hall_store.proofs.MapWorlds.{entries_made}
use Rattle.hall_store.proofs.map_calls.MapStoreReadStore.protests_of.Goals as goal

pub returns-clause-served : goal.returns-clause-served
returns-clause-served c =
    let es : List (ProtestKey × ProtestRow) = c.args.self.now.protests.entries in
    λ _. (
      tt,
      c.in_ok-protest_rows.ensures.rows
          ∙ ap (λ (k : ProtestKey). filter (is_protest_of k.entrant k.round) (values_of es)) c.in_ok-first.ensures
          ∙ ap (λ (es : List (ProtestKey × ProtestRow)). filter (is_protest_of c.args.entrant.now c.args.round.now)
          (values_of es))
          (sym (entries_made protest_total same_protest_keys es c.protest_rows.ensures.ordered)),
    )
