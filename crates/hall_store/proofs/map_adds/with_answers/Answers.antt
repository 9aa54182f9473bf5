use Rattle.std.proofs.Common.{◌≡◌, ◌+◌, ◌∷◌, drop, map, sym, ap, ◌∙◌, subst, arith, rules}
use Rattle.std.specs.FinMap.{FinMap, from_entries, insert}
use Rattle.std.proofs.lemmas.List.{drop_more}
use Rattle.hall_policy.specs.World.{answer_cmp}
use Rattle.hall_policy.specs.declared.record.AnswerRow.{AnswerRow}
use Rattle.hall_store.specs.Change.{CanAddAnswers, with_answers}
use Rattle.hall_store.specs.Keyed.{answer_entry}
use Rattle.hall_store.specs.Maps.{HasPutAnswer, world_of_maps}
use Rattle.hall_store.specs.declared.map_store.MapStore.{MapStore}
use Rattle.hall_store.proofs.PutAnswers.{still_kept, still_distinct, one_more}
use Rattle.hall_store.proofs.map_adds.with_answers.Goals as goal

pub loop-row-preserved : goal.loop-row-preserved
loop-row-preserved c =
    let held = c.loop-row.invariant in
    let at = c.loop-row.row-index in
    let row = c.row-item.result in
    let list = c.args.rows.now in
    let rest = drop (at + 1) list in
    let after = c.put_answer.new.answers.entries in
    let next : drop at list ≡ row ∷ rest = drop_more list at row (omega (arith, c.loop-row-test.true))
    ∙ ap (λ (r : AnswerRow). r ∷ rest) (sym c.row-item.is) in
    let so_far : MapStore = record c.args.store.now {
      answers = c.loop-row.answers;
      answers_kept = held.kept;
      answer_keys_distinct = held.distinct;
    } in
    let cloned : c.in_ok-clone.field-0 ≡ row = search rules in
    let put : HasPutAnswer so_far.answers.entries row after =
    subst (λ (r : AnswerRow). HasPutAnswer so_far.answers.entries r after) cloned c.in_ok-put_answer.ensures.ok in
    let can : CanAddAnswers (world_of_maps so_far) (row ∷ rest) = subst (CanAddAnswers (world_of_maps so_far)) next
    held.can in
    let one : from_entries {R = answer_cmp} (map answer_entry after) ≡ insert (world_of_maps so_far).answers row.key row
    = one_more so_far row after put can.0 in
    record {
      kept = still_kept so_far row after put;
      distinct = still_distinct so_far row after put can.0;
      can = subst (λ (m : FinMap answer_cmp AnswerRow). CanAddAnswers (record (world_of_maps so_far) { answers = m })
          rest) (sym one) can.1;
      made = ap (λ (m : FinMap answer_cmp AnswerRow). with_answers m rest) one
          ∙ ap (with_answers (world_of_maps so_far).answers) (sym next) ∙ held.made;
    }
