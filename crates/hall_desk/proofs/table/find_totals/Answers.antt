use Rattle.std.proofs.Common.{◌≡◌, [], None, subst}
use Rattle.hall_policy.specs.declared.record.RoundRow.{RoundRow}
use Rattle.hall_score.specs.Tally.{IsTallyOf, TakesProtest, TakesAnswer}
use Rattle.hall_store.specs.Store.{CanFailIn, IsListing, is_between, protests_in}
use Rattle.hall_store.proofs.Feeds.{fed_now}
use Rattle.hall_desk.proofs.Failing.{later_cause, plan_cause}
use Rattle.hall_store.proofs.Knowing.{fails_as}
use Rattle.hall_desk.proofs.Totalled.{same_rows, protests_fail, answers_fail, totals_served}
use Rattle.hall_desk.proofs.table.find_totals.Goals as goal

pub returns-in_err-feed_protests-clause-fault : goal.returns-in_err-feed_protests-clause-fault
returns-in_err-feed_protests-clause-fault g c =
    let copied : c.in_ok-clone.field-0 ≡ c.args.row.now = same_rows c.in_ok-clone.field-0 c.args.row.now
    c.in_ok-clone.ensures.cases in
    let held : IsTallyOf c.args.row.now [] [] c.new-tally.result = subst
    (λ (row : RoundRow). IsTallyOf row [] [] c.new-tally.result) copied c.new-tally.ensures in
    let old = g.S.ReadStore.content c.args.store.now in
    let new = g.S.ReadStore.content c.feed_protests.new.self in
    fails_as c.from_residual-in_err-feed_protests.result _ _ c.from_residual-in_err-feed_protests.ensures.1
    (λ failed. plan_cause old new (protests_fail (CanFailIn old new) c.args.round.now c.args.row.now c.new-tally.result
    held old new c.feed_protests.new.sink c.in_err-feed_protests.ensures.kept
    (c.in_err-feed_protests.ensures.fault failed)))

pub returns-in_err-feed_answers-clause-fault : goal.returns-in_err-feed_answers-clause-fault
returns-in_err-feed_answers-clause-fault g c =
    let copied : c.in_ok-clone.field-0 ≡ c.args.row.now = same_rows c.in_ok-clone.field-0 c.args.row.now
    c.in_ok-clone.ensures.cases in
    let held : IsTallyOf c.args.row.now [] [] c.new-tally.result = subst
    (λ (row : RoundRow). IsTallyOf row [] [] c.new-tally.result) copied c.new-tally.ensures in
    let old = g.S.ReadStore.content c.args.store.now in
    let mid = g.S.ReadStore.content c.feed_protests.new.self in
    let new = g.S.ReadStore.content c.feed_answers.new.self in
    fails_as c.from_residual-in_err-feed_answers.result _ _ c.from_residual-in_err-feed_answers.ensures.1
    (λ failed. plan_cause old new (answers_fail (CanFailIn old new) c.args.round.now c.args.row.now c.new-tally.result held mid new
    c.feed_protests.new.sink c.in_err-feed_answers.ensures.kept
    (fed_now TakesProtest (λ world rows. rows ≡ protests_in world c.args.round.now)
    (g.S.ReadStore.content c.args.store.now) (g.S.ReadStore.content c.feed_protests.new.self) _ _
    c.in_ok-feed_protests.ensures.kept c.in_ok-feed_protests.ensures.fed)
    c.feed_answers.new.sink
    (later_cause old mid new c.in_ok-feed_protests.ensures.kept.counts (c.in_err-feed_answers.ensures.fault failed))))

pub returns-clause-served : goal.returns-clause-served
returns-clause-served g c =
    let copied : c.in_ok-clone.field-0 ≡ c.args.row.now = same_rows c.in_ok-clone.field-0 c.args.row.now
    c.in_ok-clone.ensures.cases in
    let held : IsTallyOf c.args.row.now [] [] c.new-tally.result = subst
    (λ (row : RoundRow). IsTallyOf row [] [] c.new-tally.result) copied c.new-tally.ensures in
    totals_served (CanFailIn (g.S.ReadStore.content c.args.store.now) (g.S.ReadStore.content c.feed_answers.new.self))
    c.args.round.now c.args.row.now c.new-tally.result held
    (g.S.ReadStore.content c.feed_protests.new.self) (g.S.ReadStore.content c.feed_answers.new.self)
    c.feed_protests.new.sink c.in_ok-feed_answers.ensures.kept
    (fed_now TakesProtest (λ world rows. rows ≡ protests_in world c.args.round.now)
    (g.S.ReadStore.content c.args.store.now) (g.S.ReadStore.content c.feed_protests.new.self) _ _
    c.in_ok-feed_protests.ensures.kept c.in_ok-feed_protests.ensures.fed)
    c.feed_answers.new.sink c.in_ok-totals.field-0.items
    (fed_now TakesAnswer (λ world rows. IsListing world (is_between c.args.round.now None None) rows)
    (g.S.ReadStore.content c.feed_protests.new.self) (g.S.ReadStore.content c.feed_answers.new.self) _ _
    c.in_ok-feed_answers.ensures.kept c.in_ok-feed_answers.ensures.fed) c.in_ok-totals.ensures
