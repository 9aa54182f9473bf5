use Rattle.std.proofs.lemmas.Result.{IfOk-from_err}
use Rattle.std.proofs.Common.{◌≡◌, ◌∙◌, ap, true, rules, Bool, List}
use Rattle.std.specs.List.{filter}
use Rattle.std.specs.BTreeMap as tree
use Rattle.hall_policy.specs.declared.record.ProtestRow.{ProtestRow}
use Rattle.hall_store.specs.Store.{is_protest_in}
use Rattle.hall_store.proofs.Feeds.{feeding_on}
use Rattle.hall_store.proofs.Ranges.{kept_first}
use Rattle.hall_store.proofs.protest_reads.feed_protests.Goals as goal

pub loop-row-preserved-in-Continue-1 : goal.loop-row-preserved-in-Continue-1
loop-row-preserved-in-Continue-1 g c =
    let test : ProtestRow → Bool = is_protest_in c.args.round.now in
    let row : ProtestRow = c.in-Some.row.now in
    let rest : List ProtestRow = c.next.new.self in
    let passes : test row ≡ true = search rules in
    feeding_on c.args.sink.now c.loop-row.sink c.take.new.self (filter test (tree.values c.args.protests.now))
    (filter test c.loop-row.row-iterator) (filter test rest) row
    (ap (filter test) c.in-Some.ensures.steps ∙ kept_first test row rest passes) c.loop-row.invariant
    c.in_ok-take.ensures.took

pub returns-in_err-take-clause-fed : goal.returns-in_err-take-clause-fed
returns-in_err-take-clause-fed g c = IfOk-from_err c.from_residual.result _ c.from_residual.ensures.0
