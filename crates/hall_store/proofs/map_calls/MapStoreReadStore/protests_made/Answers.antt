use Rattle.std.proofs.Common.{◌&&◌, Bool, sym, ◌∙◌, ap, List, length, count_by}
use Rattle.std.specs.Map.{values_of}
use Rattle.std.proofs.lemmas.List.Elements.{filter_agree}
use Rattle.std.proofs.lemmas.List.Sums.{length-filter}
use Rattle.hall_policy.specs.World.{same_text}
use Rattle.hall_policy.specs.declared.record.ProtestKey.{ProtestKey}
use Rattle.hall_policy.specs.declared.record.ProtestRow.{ProtestRow}
use Rattle.hall_policy.proofs.Orders.{protest_total, same_protest_keys}
use Rattle.hall_store.specs.Store.{is_protest_of}
use Rattle.hall_store.proofs.MapWorlds.{entries_made}
use Rattle.hall_store.proofs.Tests.{and_turned}
use Rattle.hall_store.proofs.map_calls.MapStoreReadStore.protests_made.Goals as goal

pub count_protests-requires-clause-first : goal.count_protests-requires-clause-first
count_protests-requires-clause-first c = ap (λ (k : ProtestKey). k.token) c.in_ok-first.ensures

pub returns-clause-served : goal.returns-clause-served
returns-clause-served c =
    let es : List (ProtestKey × ProtestRow) = c.args.self.now.protests.entries in
    let entrant = c.args.entrant.now in
    let round = c.args.round.now in
    let theirs : ProtestRow → Bool = λ row. same_text row.key.entrant entrant && same_text row.key.round round in
    λ _. (
      tt,
      c.count_protests.ensures.count
          ∙ ap (λ (k : ProtestKey). count_by (is_protest_of k.entrant k.round) (values_of es)) c.in_ok-first.ensures
          ∙ sym (length-filter (is_protest_of entrant round) (values_of es))
          ∙ ap length (filter_agree (is_protest_of entrant round) theirs
          (λ row. and_turned (same_text row.key.round round) (same_text row.key.entrant entrant)) (values_of es))
          ∙ length-filter theirs (values_of es)
          ∙ ap (λ (es : List (ProtestKey × ProtestRow)). count_by theirs (values_of es))
          (sym (entries_made protest_total same_protest_keys es c.count_protests.ensures.ordered)),
    )
