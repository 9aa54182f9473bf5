use Rattle.std.proofs.lemmas.Result.{IfOk-from_err}
use Rattle.std.proofs.lemmas.List.{map_more}
use Rattle.hall_score.specs.Standings.{line_of}
use Rattle.hall_score.proofs.ranking.lines_of.Goals as goal

pub loop-entrant-preserved : goal.loop-entrant-preserved
loop-entrant-preserved c =
    let totals = c.args.totals.now in
    let more = map_more (line_of totals) totals c.loop-entrant.entrant-index c.entrant-item.result
    c.loop-entrant-test.true in
    let item = c.entrant-item.is in
    let made = c.in_ok-line_of.ensures totals c.requires.moved in
    let pushed = c.in_ok-push.ensures.items in
    cc (more, item, made, pushed, c.loop-entrant.invariant)

pub returns-in_err-lines : goal.returns-in_err-lines
returns-in_err-lines c = IfOk-from_err c.from_residual.result _ c.from_residual.ensures.0

pub returns-in_err-line_of : goal.returns-in_err-line_of
returns-in_err-line_of c = IfOk-from_err c.from_residual-in_err-line_of.result _
    c.from_residual-in_err-line_of.ensures.0

pub returns-in_err-push : goal.returns-in_err-push
returns-in_err-push c = IfOk-from_err c.from_residual-in_err-push.result _ c.from_residual-in_err-push.ensures.0
