use Rattle.std.proofs.Common.{◌≡◌, ◌∙◌, ◌∷◌, ◌+◌, List, [], drop, rules, arith, ap, subst}
use Rattle.std.proofs.lemmas.List.{drop_all, drop_more}
use Rattle.hall_policy.specs.declared.record.AnswerRow.{AnswerRow}
use Rattle.hall_store.proofs.Feeds.{Feeding, feeding_on, feeding_ended}
use Rattle.hall_desk.specs.Lines.{IsLineAdded}
use Rattle.hall_desk.proofs.answers.show_answers.Goals as goal

pub loop-row-preserved : goal.loop-row-preserved
loop-row-preserved c =
    let left : drop c.loop-row.row-index c.args.rows.now ≡ c.row-item.result ∷ drop (c.loop-row.row-index + 1)
    c.args.rows.now =
    drop_more c.args.rows.now c.loop-row.row-index c.row-item.result (omega arith)
    ∙ ap (λ (r : AnswerRow). r ∷ drop (c.loop-row.row-index + 1) c.args.rows.now) (search rules) in
    feeding_on c.in_ok-lines.lines c.loop-row.lines c.add.new.self c.args.rows.now
    (drop c.loop-row.row-index c.args.rows.now) (drop (c.loop-row.row-index + 1) c.args.rows.now) c.row-item.result
    left c.loop-row.invariant c.in_ok-add.ensures.added

pub returns : goal.returns
returns c =
    let none : drop c.loop-row.row-index c.args.rows.now ≡ [] =
    drop_all c.loop-row.row-index c.args.rows.now (omega arith) in
    let whole = subst (λ (rest : List AnswerRow). Feeding IsLineAdded c.in_ok-lines.lines c.args.rows.now rest
    c.loop-row.lines) none c.loop-row.invariant in
    c.end.ensures c.args.shows c.in_ok-lines.lines c.args.rows.now c.in_ok-lines.ensures
    (feeding_ended c.in_ok-lines.lines c.loop-row.lines c.args.rows.now whole)
